-- `of_types::float_side` meets its contract.
use Rattle.of_types.proofs.Ways.{float_high, float_constant, float_low}
use Rattle.of_types.proofs.float_side.Goals as goal

pub returns-then-size-lt-SIZE_ZERO : goal.returns-then-size-lt-SIZE_ZERO
returns-then-size-lt-SIZE_ZERO c = search float_high

pub returns-then-size-eq-SIZE_ZERO : goal.returns-then-size-eq-SIZE_ZERO
returns-then-size-eq-SIZE_ZERO c = search float_constant

pub returns : goal.returns
returns c = search float_low
