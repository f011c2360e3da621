-- `of_types::int_side` meets its contract.
use Rattle.of_types.proofs.Ways.{int_high, int_constant, int_low}
use Rattle.of_types.proofs.int_side.Goals as goal

pub returns-then-is_less : goal.returns-then-is_less
returns-then-is_less c = search int_high

pub returns-then-min-max : goal.returns-then-min-max
returns-then-min-max c = search int_constant

pub returns : goal.returns
returns c = search int_low
