-- The loop that builds the index: the words before `at` are indexed. Assumes nothing.
use mathlib.Core.Path.{◌≡◌, sym, ap, ◌∙◌}
use mathlib.Core.Bool.{true}
use mathlib.Core.List.{List, ◌++◌}
use Prim.Native.Nat.{ℕ, ◌+◌, ◌/◌, ◌≤◌, ◌<◌}
use native.Mathlib.Omega.{arith}
use native.Mathlib.Nat.{add-zero}
use lib.ListN.{length, take, drop, get_or, length-drop}
use lib.Seq.{slice, take-add, length-take-le, get_or-take, get_or-drop}
use Rattle.words.specs.Words.{size_of, fills}
use Rattle.words.specs.Ran.{HasSize}
use Rattle.words.proofs.Walk.{size_pos, next, inside}
use Rattle.words.proofs.Kept.{fills_more}
use Rattle.index.specs.Chains.{Indexed, added}
use Rattle.index.proofs.More.{length_added, bucket_low, indexed_more}

pub record Built (ws : List ℕ) (used : ℕ) (index : List ℕ) (at : ℕ) : Type 0 where
  pub low : 1 ≤ at
  pub high : at ≤ used
  pub half : used ≤ length index / 2
  pub before : fills 0 (drop 1 (take at ws)) ≡ true
  pub behind : fills 0 (slice at used ws) ≡ true
  pub indexed : Indexed (take at ws) index

module _ (ws : List ℕ) (used : ℕ) (index : List ℕ) (at : ℕ) (high : used ≤ length ws) (b : Built ws used index at) where
  long : length (take at ws) ≡ at
  long = length-take-le at ws (omega (arith, b.high))

  pub built_all : used ≤ at → Indexed (take used ws) index
  built_all out = let q : at ≡ used = omega (arith, b.high) in rw q at b.indexed

  module _ (more : at < used) where
    pub built_inside : at + size_of (get_or ws at 0) ≤ used
    built_inside = inside ws used at high more b.behind

    pub built_bucket : (c : ℕ) → c < length index / 2 → get_or index c 0 ≤ at
    built_bucket c l = omega (arith, bucket_low (take at ws) index (omega (arith, long, b.low)) b.indexed c l, long)

    abbrev e : List ℕ
    e = take (size_of (get_or ws at 0)) (drop at ws)

    e_long : length e ≡ size_of (get_or ws at 0)
    e_long = length-take-le (size_of (get_or ws at 0)) (drop at ws) (omega (arith, built_inside, length-drop at ws))

    pub built_long : (entry : List ℕ) → entry ≡ take (size_of (get_or ws at 0)) (drop at ws) → (0 < length entry) × (at + length entry ≤ used)
    built_long entry is = let n : length entry ≡ size_of (get_or ws at 0) = rw is e_long in (omega (arith, size_pos (get_or ws at 0)), omega (arith, built_inside))

    e_sized : HasSize e
    e_sized = e_long ∙ ap size_of (sym (get_or-take (size_of (get_or ws at 0)) (drop at ws) 0 0 (size_pos (get_or ws at 0)) ∙ get_or-drop at ws 0 0 ∙ ap (λ (k : ℕ). get_or ws k 0) (add-zero at)))

    pub built_more : (entry index' : List ℕ) → entry ≡ take (size_of (get_or ws at 0)) (drop at ws) → index' ≡ added index at entry → Built ws used index' (at + length entry)
    built_more entry index' it is =
        let k = size_of (get_or ws at 0) in
        let u = take at ws in
        let l : 1 ≤ length u = omega (arith, long, b.low) in
        let q : take (at + k) ws ≡ u ++ e = take-add at k ws in
        let new : index' ≡ added index (length u) e = is ∙ rw (it, long) in
        let m : length index' ≡ length index = ap length new ∙ length_added index (length u) e in
        let half : used ≤ length index' / 2 = rw m b.half in
        let full : fills 0 (drop 1 (u ++ e)) ≡ true = fills_more u e l b.before e_sized in
        let x : Indexed (u ++ e) (added index (length u) e) = indexed_more u index l b.indexed e b.before e_sized (omega (arith, long, b.half)) (omega (arith, long, e_long, b.half, built_inside)) in
        rw (it, e_long) record {
          low = omega (arith, b.low);
          high = built_inside;
          half = half;
          before = rw q full;
          behind = sym (next ws used at high more at built_inside).filled ∙ b.behind;
          indexed = rw (q, new) x;
        }
