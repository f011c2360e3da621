-- What an arm of `operate` leaves, for a call that is known to be one of the values: what it runs, the memory, and that its arguments are typed. Assumes nothing.
use Rattle.std.proofs.Common.{◌≡◌, ℕ, true, List, ◌++◌, take}
use Rattle.words.specs.Ran.{Ran}
use Rattle.std.specs.Prelude.{Option}
use Rattle.words.specs.declared.Interned.{Interned}
use Rattle.lent_memory.specs.Memory.{Right, RightThen}
use Rattle.lent_memory.proofs.Laws.{then_kept}
use Rattle.every_call.specs.Run.{typed}
use Rattle.making.specs.declared.Making.{Making}
use Rattle.making.specs.Making.{appended, rows_of, op_of}
use Rattle.every_call.specs.Cleared.{Cleared}
use Rattle.every_call.proofs.Cleared.{segments}
use Rattle.making.proofs.As.{as_ran, as_typed}
use Rattle.making.proofs.Grows.{making_grows}

module _ {m n : Making} (is : m ≡ n) (list text : List ℕ) {old new new' memory : List ℕ} {used : ℕ} {r : Option Interned} where
  -- a maker, which asks no memory
  pub made_arm : Cleared (rows_of m list text) old new used → Right (take used (old ++ new)) memory → Ran used (op_of n list text (take used (old ++ new))) (old ++ new) (old ++ new') r → typed (appended n list text) ≡ true
      → Ran used (op_of m list text (take used (old ++ new))) (old ++ new) (old ++ new') r × (RightThen old new' r memory × (typed (appended m list text) ≡ true))
  made_arm c right ran t =
      let run = as_ran is list text (take used (old ++ new)) ran in
      (run, (then_kept (segments c) right (op_of m list text (take used (old ++ new))) (making_grows m list text (take used (old ++ new))) new' run, as_typed is list text t))

-- an operation that says itself what it leaves of the memory
pub answered_arm : {m n : Making} → m ≡ n → (list text u : List ℕ) {used : ℕ} {ws ws' old new' memory : List ℕ} {r : Option Interned} → Ran used (op_of n list text u) ws ws' r → RightThen old new' r memory → typed (appended n list text) ≡ true
    → Ran used (op_of m list text u) ws ws' r × (RightThen old new' r memory × (typed (appended m list text) ≡ true))
answered_arm is list text u ran right t = (as_ran is list text u ran, (right, as_typed is list text t))
