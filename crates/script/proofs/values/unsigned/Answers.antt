-- A case for each way out of the loop over the digits (proofs/Digits.antt).
use Rattle.std.proofs.Common.{◌∙◌, arith, rules}
use Rattle.script.proofs.Digits.{none, too_many, begin, no_digit, large_product, large_sum, one_digit, all_taken}
use Rattle.script.proofs.values.unsigned.Goals as goal
use Rattle.script.proofs.values.unsigned.Goals.{then-is_empty-via-then-is_empty, then-is_empty-via-else-is_empty+then-most-word}

pub returns-then-is_empty : goal.returns-then-is_empty
returns-then-is_empty c = elim c.then-is_empty.branch [
  | then-is_empty-via-then-is_empty w ↦ none _ _ _ (search rules)
  | then-is_empty-via-else-is_empty+then-most-word w ↦ too_many _ _ _ (omega arith)
]

pub loop-b-init : goal.loop-b-init
loop-b-init c = (search rules, begin _ _ _ (search rules) (omega arith))

pub returns-in_err-digit : goal.returns-in_err-digit
returns-in_err-digit c =
    c.from_residual.ensures
    ∙ no_digit _ _ _ _ _ c.loop-b.invariant.1 (omega arith) _ c.from.ensures (omega arith) c.in_err-digit.ensures.value

pub returns-in_err-checked_mul : goal.returns-in_err-checked_mul
returns-in_err-checked_mul c =
    c.from_residual-in_err-checked_mul.ensures
    ∙ large_product _ _ _ _ _ c.loop-b.invariant.1 (omega arith) _ c.from.ensures (omega arith)
    c.in_ok-digit.digit (search rules) (search rules) _ c.from-in-loop-b.ensures (c.in_err-checked_mul.ensures)

pub returns-in_err-sum : goal.returns-in_err-sum
returns-in_err-sum c =
    c.from_residual-in_err-sum.ensures
    ∙ large_sum _ _ _ _ _ c.loop-b.invariant.1 (omega arith) _ c.from.ensures (omega arith)
    c.in_ok-digit.digit (search rules) (search rules) _ _ _ c.from-in-loop-b.ensures (search rules) c.from-in-loop-b-2.ensures (c.in_err-sum.ensures)

pub loop-b-preserved : goal.loop-b-preserved
loop-b-preserved c = (
  search rules,
  one_digit _ _ _ _ _ c.loop-b.invariant.1 (omega arith) _ c.from.ensures (omega arith)
      c.in_ok-digit.digit (search rules) (search rules) _ c.in_ok-checked_mul.field-0 _ c.from-in-loop-b.ensures (search rules) c.from-in-loop-b-2.ensures _ (search rules),
)

pub returns : goal.returns
returns c = all_taken _ _ _ _ _ c.loop-b.invariant.1 c.loop-b-test.false c.loop-b.invariant.0
