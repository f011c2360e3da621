-- The loop that marks entries: the bits mark those of the words before `at`. Assumes nothing.
use mathlib.Core.Path.{◌≡◌, refl, sym, ap, ◌∙◌, fun_ext}
use mathlib.Core.Bool.{Bool, true, false, ◌||◌}
use mathlib.Core.List.{List, [], ◌∷◌, ◌++◌}
use Prim.Native.Nat.{ℕ, ◌+◌, ◌≤◌, ◌<◌}
use native.Mathlib.Omega.{arith}
use native.Mathlib.Nat.{add-zero}
use lib.Dec.{eqb}
use lib.ListN.{length, take, drop, get_or, length-drop}
use lib.Seq.{slice, take-add, take-take, length-take-le, get_or-take, get_or-drop}
use Rattle.words.specs.Words.{size_of, fills}
use Rattle.words.specs.Table.{Row, is_at, entries, starts}
use Rattle.words.specs.Ran.{HasSize}
use Rattle.words.proofs.Walk.{size_pos, next, inside}
use Rattle.words.proofs.Kept.{entries_append, fills_more}
use Rattle.bitset.specs.Bitset.{bit_at, also}
use Rattle.index.proofs.Prefix.{rest_fills}

pub record Marked (ws : List ℕ) (used : ℕ) (bits : List ℕ) (at : ℕ) : Type 0 where
  pub low : 1 ≤ at
  pub high : at ≤ used
  pub before : fills 0 (drop 1 (take at ws)) ≡ true
  pub behind : fills 0 (slice at used ws) ≡ true
  pub marks : bit_at bits ≡ starts (take at ws)

pub mark_first : (ws : List ℕ) (used : ℕ) (bits : List ℕ) (from : ℕ) → used ≤ length ws → 1 ≤ from → from ≤ used → fills 0 (drop 1 (take from ws)) ≡ true → fills 0 (drop 1 (take used ws)) ≡ true → bit_at bits ≡ starts (take from ws) → Marked ws used bits from
mark_first ws used bits from high low within cut full marks =
    let n : length (take used ws) ≡ used = length-take-le used ws high in
    let p : take from (take used ws) ≡ take from ws = take-take from used ws within in
    record {
      low = low;
      high = within;
      before = cut;
      behind = rest_fills (take used ws) from low (omega (arith, n)) (rw p cut) full;
      marks = marks;
    }

turn : (a b c : Bool) → (a || (b || c)) ≡ (b || (a || c))
turn true true c = refl
turn true false c = refl
turn false true c = refl
turn false false c = refl

one_more : (rs : List Row) (r : Row) (h : ℕ) → is_at (rs ++ (r ∷ [])) h ≡ (eqb r.at h || is_at rs h)
unfolding is_at
one_more [] r h = refl
one_more (s ∷ rs) r h = rw (one_more rs r h) (turn (eqb s.at h) (eqb r.at h) (is_at rs h))

module _ (ws : List ℕ) (used : ℕ) (bits : List ℕ) (at : ℕ) (high : used ≤ length ws) (m : Marked ws used bits at) where
  pub mark_all : used ≤ at → bit_at bits ≡ starts (take used ws)
  mark_all out = let q : at ≡ used = omega (arith, m.high) in rw q at m.marks

  module _ (more : at < used) where
    pub mark_inside : at + size_of (get_or ws at 0) ≤ used
    mark_inside = inside ws used at high more m.behind

    abbrev e : List ℕ
    e = take (size_of (get_or ws at 0)) (drop at ws)

    e_sized : HasSize e
    e_sized = length-take-le (size_of (get_or ws at 0)) (drop at ws) (omega (arith, mark_inside, length-drop at ws)) ∙ ap size_of (sym (get_or-take (size_of (get_or ws at 0)) (drop at ws) 0 0 (size_pos (get_or ws at 0)) ∙ get_or-drop at ws 0 0 ∙ ap (λ (k : ℕ). get_or ws k 0) (add-zero at)))

    pub mark_more : (n : ℕ) (bits' : List ℕ) → n ≡ size_of (get_or ws at 0) → bit_at bits' ≡ also at (bit_at bits) → Marked ws used bits' (at + n)
    unfolding also
    mark_more n bits' size is =
        let k = size_of (get_or ws at 0) in
        let u = take at ws in
        let long : length u ≡ at = length-take-le at ws (omega (arith, m.high)) in
        let l : 1 ≤ length u = omega (arith, long, m.low) in
        let q : take (at + k) ws ≡ u ++ e = take-add at k ws in
        let x : entries (u ++ e) ≡ entries u ++ (record { at = length u; words = e } ∷ []) = entries_append u e l m.before e_sized in
        rw size record {
          low = omega (arith, m.low);
          high = mark_inside;
          before = rw q (fills_more u e l m.before e_sized);
          behind = sym (next ws used at high more at mark_inside).filled ∙ m.behind;
          marks = fun_ext (λ h. ap (λ (s : ℕ → Bool). s h) is ∙ rw (q, x, one_more (entries u) (record { at = length u; words = e }) h, long) (ap (λ (s : ℕ → Bool). eqb at h || s h) m.marks));
        }

-- what `mark_from` uses
pub ruleset marking = (mark_all, mark_inside, size_pos)
