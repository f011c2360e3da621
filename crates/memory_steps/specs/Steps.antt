-- The steps around an operation with a lent memory, which is one list in six parts (lent_memory/specs/Memory.antt).
use Rattle.std.specs.Prelude.{◌≡◌, Bool, false, List, ℕ, eqb, length, replicate}
use Rattle.std.specs.Prelude.{Option, Some, None}
use Rattle.words.specs.declared.Interned.{Interned}
use Rattle.walk_rules.specs.declared.Walk.{Walk}
use Rattle.walk_rules.specs.declared.Walk.TheVariants.{Dual, Glb, Lub}

-- which part has the answers of a walk
unfoldable pub part_of : Walk → ℕ
part_of Dual = 0
part_of Glb = 2
part_of Lub = 3

-- what isa reads off the answer of a meet that had no word to append to: whether it is the handle b; one that did not fit is not
unfoldable pub second : Option Interned → ℕ → Bool
second (Some m) b = eqb m.handle b
second None b = false

-- after an operation: a memory of blanks where its answer did not fit
pub record Forgot (r : Option Interned) (memory memory' : List ℕ) : Type 0 where
  pub full : r ≡ None → memory' ≡ replicate (length memory) 0
  pub kept : (r ≡ None → ⊥) → memory' ≡ memory
