-- What the operations require of the segments and of handles, where row 1 has passed and no row of the call applies. Assumes nothing.
use mathlib.Core.List.{List, [], ◌∷◌, ◌++◌}
use Prim.Native.Nat.{ℕ}
use mathlib.Core.Path.{◌≡◌}
use native.Mathlib.Omega.{arith}
use lib.ListN.{length, take, length-append}
use lib.Seq.{length-take-le}
use Rattle.words.specs.Ran.{Segments}
use Rattle.call.specs.Handles.{types_rows}
use Rattle.wellformed.specs.Form.{used_words}
use Rattle.wellformed.proofs.Before.{tests}
use Rattle.call.proofs.Ways.{Begun}
use Rattle.parts.specs.Parts.{Good, Part, Ready, ReadyOne}
use Rattle.parts.proofs.Good.{good_long, part_weak, well_good}
use Rattle.every_call.specs.Cleared.{Cleared}
use Rattle.every_call.proofs.Parts.{one_part, two_parts}

-- ---- a store that row 1 has passed

module _ (rows : List ℕ → ℕ) (ws : List ℕ) (used : ℕ) (begun : Begun ws used) (q : rows (take used ws) ≡ 0) where
  good : Good (take used ws)
  good = let e : used_words ws ≡ take used ws = rw begun.is in rw e at (well_good ws begun.ok)

  -- the whole store is lent to be written
  pub whole : Cleared rows [] ws used
  whole = record {
    over = omega arith;
    within = omega (arith, begun.within);
    small = omega (arith, (tests ws begun.ok).most);
    cut = begun.segments.cut;
    good = good;
    passed = q;
  }

-- ---- what the operations require

module _ {old new : List ℕ} {used : ℕ} where
  long : {rows : List ℕ → ℕ} → Cleared rows old new used → length (take used (old ++ new)) ≡ used
  long c = length-take-le used (old ++ new) (omega (arith, c.within, length-append old new))

  pub segments : {rows : List ℕ → ℕ} → Cleared rows old new used → Segments old new used
  segments c = record { low = omega (arith, long c, good_long c.good); over = c.over; high = c.within; cut = c.cut; full = c.good.sound.full }

  module _ (a : ℕ) (c : Cleared (types_rows (a ∷ [])) old new used) where
    part : Part (take used (old ++ new)) used 33 1 11 a
    part = part_weak used 33 (omega (arith, long c)) (omega arith) (one_part a (take used (old ++ new)) c.good c.passed)

    pub ready_one : ReadyOne old new used a
    ready_one = record { over = c.over; within = c.within; small = c.small; cut = c.cut; near = part.earlier; good = c.good; first = part }

  module _ (a b : ℕ) (c : Cleared (types_rows (a ∷ b ∷ [])) old new used) where
    parts : Part (take used (old ++ new)) (length (take used (old ++ new))) 33 1 11 a × Part (take used (old ++ new)) (length (take used (old ++ new))) 33 1 11 b
    parts = two_parts a b (take used (old ++ new)) c.good c.passed

    first : Part (take used (old ++ new)) used 33 1 11 a
    first = part_weak used 33 (omega (arith, long c)) (omega arith) parts.0

    second : Part (take used (old ++ new)) used 33 1 11 b
    second = part_weak used 33 (omega (arith, long c)) (omega arith) parts.1

    pub ready_two : Ready old new used 1 11 a b
    ready_two = record {
      over = c.over;
      within = c.within;
      small = c.small;
      cut = c.cut;
      near = first.earlier;
      next = second.earlier;
      good = c.good;
      first = first;
      second = second;
    }
