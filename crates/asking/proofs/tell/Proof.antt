-- `asking::tell` meets its contract: each arm is the answer of its call.
use mathlib.Core.Path.{ap}
use Prim.Native.Nat.{suc}
use native.Mathlib.Omega.{arith}
use Rattle.call.specs.Call.{handle, number, flag}
use Rattle.every_call.proofs.Cleared.{ready_one, ready_two}
use Rattle.asking.proofs.As.{as_cleared, as_answer, int_need, float_need}
use Rattle.struct_calls.proofs.Callers.{within}
use borrow.Author.Rules.{rules}
use Rattle.asking.proofs.tell.Statement.{statement}
use Rattle.asking.proofs.tell.Tie as tie

-- one line a need, in the order of the arms
pub tell_spec : {M : Type 1} → statement M
tell_spec =
    tie.close
    (tie.spec
    (λ c. search rules)
    (λ c. search rules)
    (λ c κs. search rules)
    (λ c. search rules)
    (λ c κs. search rules)
    (λ c. search rules)
    (λ c κs. (ready_two _ _ (as_cleared c.in-Isa.is c.requires.0), c.requires.1))
    (λ c. search rules)
    (λ c. search rules)
    (λ c κs. (ready_one _ (as_cleared c.in-IsFinal.is c.requires.0), c.requires.1.0))
    (λ c. search rules)
    (λ c κs. within c.requires.0)
    (λ c. search rules)
    (λ c κs. int_need _ (as_cleared c.in-Int.is c.requires.0))
    (λ c. search rules)
    (λ c κs. float_need _ (as_cleared c.in-Float.is c.requires.0))
    (λ c. search rules)
    (λ c κs. as_cleared c.in-Struct.is c.requires.0)
    (λ c. (as_answer c.in-Kind.is _ (ap number c.kind_on.ensures), c.requires.1.0))
    (λ c. (as_answer c.in-GetBool.is _ (ap handle c.bool_at.ensures), c.requires.1.0))
    (λ c. search rules)
    (λ c. (as_answer c.in-Isa.is _ (ap flag c.isa.ensures.0), c.isa.ensures.1))
    (λ c. search rules)
    (λ c. search rules)
    (λ c. (as_answer c.in-IsFinal.is _ (ap flag (c.is_final-yes.ensures.0.is (suc c.in-IsFinal.a) (omega arith))), c.is_final-yes.ensures.1))
    (λ c. (as_answer c.in-Type.is _ c.tell.ensures, c.requires.1.0))
    (λ c. (as_answer c.in-Int.is _ c.tell_int.ensures, c.requires.1.0))
    (λ c. (as_answer c.in-Float.is _ c.tell_float.ensures, c.requires.1.0))
    (λ c. (as_answer c.in-Struct.is _ c.tell-in-Struct.ensures, c.requires.1.0)))
