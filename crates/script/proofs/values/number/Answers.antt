-- What stands before the digits, in each arm.
use Rattle.std.proofs.Common.{◌∙◌, arith}
use Rattle.std.proofs.lemmas.Grind.{common_steps}
use Rattle.script.proofs.Digits.{none_minus, some_minus, with_hex, without, none_of, one_of}
use Rattle.script.proofs.values.number.Goals as goal
use Rattle.script.proofs.values.number.Goals.{then-word-lt2+in-45-1, else-word-lt2+in-45-1, in_default-via-then-word-lt1, in_default-via-else-word-lt1+then-word-lt2+in_default-1, in_default-via-else-word-lt1+else-word-lt2+in-48+in_default-1, in_default-via-else-word-lt1+else-word-lt2+in_default-1}

pub returns-in_err-unsigned-in-45 : goal.returns-in_err-unsigned-in-45
returns-in_err-unsigned-in-45 c =
    c.from_residual.ensures ∙ elim c.in-45-1.branch [
      | then-word-lt2+in-45-1 w ↦ none_minus _ (omega arith) c.in_err-unsigned-in-45.ensures
      | else-word-lt2+in-45-1 w ↦ none_minus _ (omega arith) c.in_err-unsigned-in-45.ensures
    ]

pub returns-in-48 : goal.returns-in-48
returns-in-48 c = c.unsigned.ensures ∙ with_hex _ (omega arith) (omega arith)

pub returns-in_ok-unsigned-in-45 : goal.returns-in_ok-unsigned-in-45
returns-in_ok-unsigned-in-45 c = elim c.in-45-1.branch [
  | then-word-lt2+in-45-1 w ↦ some_minus _ (omega arith) _ _ c.in_ok-unsigned-in-45.ensures c.negative.ensures
  | else-word-lt2+in-45-1 w ↦ some_minus _ (omega arith) _ _ c.in_ok-unsigned-in-45.ensures c.negative.ensures
]

pub returns-in_default : goal.returns-in_default
returns-in_default c = c.unsigned-in_default.ensures ∙ elim c.in_default.branch [
  | in_default-via-then-word-lt1 w ↦ none_of _ (grind (arith, common_steps))
  | in_default-via-else-word-lt1+then-word-lt2+in_default-1 w ↦ one_of _ (grind (arith, common_steps)) (omega arith)
  | in_default-via-else-word-lt1+else-word-lt2+in-48+in_default-1 w ↦ without _ (omega arith) (λ e f. omega arith)
  | in_default-via-else-word-lt1+else-word-lt2+in_default-1 w ↦ without _ (omega arith) (λ e f. omega arith)
]
