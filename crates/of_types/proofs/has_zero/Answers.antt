-- `of_types::has_zero` meets its contract.
use Rattle.of_types.proofs.Ways.{has_int, has_float, has_pointer}
use Rattle.of_types.proofs.has_zero.Goals as goal

pub returns-then-k-eq-INT : goal.returns-then-k-eq-INT
returns-then-k-eq-INT c = search has_int

pub returns-then-k-eq-FLOAT : goal.returns-then-k-eq-FLOAT
returns-then-k-eq-FLOAT c = search has_float

pub returns : goal.returns
returns c = search has_pointer
