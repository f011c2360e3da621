use Rattle.std.proofs.Common.{arith}
use Rattle.script.proofs.Digits.{too_low, minus}
use Rattle.script.proofs.values.negative.Goals as goal

pub returns-then-magnitude : goal.returns-then-magnitude
returns-then-magnitude c = minus _ _ (omega arith) (omega arith) c.wrapping_neg.ensures

pub returns-else-magnitude : goal.returns-else-magnitude
returns-else-magnitude c = too_low _ (omega arith)
