-- `of_types::pointer_side` meets its contract.
use Rattle.of_types.proofs.Ways.{pointer_high, pointer_constant, pointer_low}
use Rattle.of_types.proofs.pointer_side.Goals as goal

pub returns-then-t : goal.returns-then-t
returns-then-t c = search pointer_high

pub returns-then-t-2 : goal.returns-then-t-2
returns-then-t-2 c = search pointer_constant

pub returns : goal.returns
returns c = search pointer_low
