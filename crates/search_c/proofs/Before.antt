-- The turns of the search as it was before, in words that stand in one segment. Assumes nothing.
use mathlib.Core.Path.{◌≡◌, sym, ap, ◌∙◌}
use mathlib.Core.Bool.{Bool, true, false}
use mathlib.Core.List.{List}
use Prim.Native.Nat.{ℕ, ◌+◌, ◌-◌, ◌≤◌, ◌<◌}
use native.Mathlib.Nat.{zero-add}
use lib.ListN.{length, take, drop, get_or}
use lib.Seq.{slice}
use Rattle.words.specs.Words.{size_of, eqs, fills}
use Rattle.words.specs.Table.{rows, first_of}
use Rattle.std.specs.Prelude.{Option, Some, None}
use Rattle.words.proofs.Walk as walk

module _ (ws : List ℕ) (to : ℕ) (e : List ℕ) where
  -- the answer on the entries from `at` on
  abbrev pub from : ℕ → Option ℕ
  from at = first_of (rows at 0 (slice at to ws)) e

  based : (at : ℕ) → first_of (rows (0 + at) 0 (slice at to ws)) e ≡ from at
  based at = ap (λ (n : ℕ). first_of (rows n 0 (slice at to ws)) e) (zero-add at)

  module _ (all : Option ℕ) (at : ℕ) (left : all ≡ from at) where
    pub none_left : to ≤ at → None ≡ all
    none_left = walk.none_left ws 0 to e all at (left ∙ sym (based at))

    module _ (n : ℕ) (t : Bool)
        (high : to ≤ length ws) (more : at < to) (full : fills 0 (slice at to ws) ≡ true)
        (sized : n ≡ size_of (get_or ws at 0))
        (same : t ≡ eqs (take ((at + n) - at) (drop at ws)) e) where
      pub hit : t ≡ true → Some at ≡ all
      hit it = ap Some (sym (zero-add at)) ∙ walk.hit ws 0 to e all at n t high more full (left ∙ sym (based at)) sized same it

      pub missed : t ≡ false → (fills 0 (slice (at + n) to ws) ≡ true) × (all ≡ from (at + n))
      missed not =
          let m = walk.missed ws 0 to e all at n t high more full (left ∙ sym (based at)) sized same not in
          (m.0, m.1 ∙ based (at + n))
