-- `of_types::zero_of` meets its contract.
use Rattle.of_types.proofs.Ways.{zero_int, zero_float, zero_pointer, zero_other}
use Rattle.of_types.proofs.zero_of.Goals as goal

pub returns-then-k-eq-INT : goal.returns-then-k-eq-INT
returns-then-k-eq-INT c = search zero_int

pub returns-then-k-eq-FLOAT : goal.returns-then-k-eq-FLOAT
returns-then-k-eq-FLOAT c = search zero_float

pub returns-then-k-eq-MEM_PTR : goal.returns-then-k-eq-MEM_PTR
returns-then-k-eq-MEM_PTR c = search zero_pointer

pub returns : goal.returns
returns c = search zero_other
