-- What becomes of nil and of final. Assumes nothing.
use mathlib.Core.Path.{◌≡◌}
use Prim.Native.Nat.{ℕ, ◌-◌}
use Rattle.walk_rules.specs.Tables.{nil_of, final_of}
use Rattle.walk_rules.specs.declared.Walk.{Walk}
use Rattle.walk_rules.specs.declared.Walk.TheVariants.{Dual}

pub nil_dual : (w : Walk) (nil : ℕ) → w ≡ Dual → 1 - nil ≡ nil_of w nil
nil_dual w nil e = rw e

pub final_by : (w x : Walk) (v : ℕ) → w ≡ x → final_of x v ≡ final_of w v
final_by w x v e = rw e
