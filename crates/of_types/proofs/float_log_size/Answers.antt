-- `of_types::float_log_size` meets its contract.
use Rattle.of_types.proofs.Ways.{float_32, float_minus_32, float_64, float_single, float_double}
use Rattle.of_types.proofs.float_log_size.Goals as goal

pub returns-then-size-eq-SIZE_32 : goal.returns-then-size-eq-SIZE_32
returns-then-size-eq-SIZE_32 c = search float_32

pub returns-then-size-eq-SIZE_MINUS_32 : goal.returns-then-size-eq-SIZE_MINUS_32
returns-then-size-eq-SIZE_MINUS_32 c = search float_minus_32

pub returns-then-size-ne-SIZE_ZERO : goal.returns-then-size-ne-SIZE_ZERO
returns-then-size-ne-SIZE_ZERO c = search float_64

pub returns-then-is_f32 : goal.returns-then-is_f32
returns-then-is_f32 c = search float_single

pub returns : goal.returns
returns c = search float_double
