-- `of_structs::is_array` meets its contract.
use Rattle.of_structs.proofs.Bodies.{no_struct, struct_if}
use Rattle.of_structs.proofs.is_array.Goals as goal

pub returns-then-kind_on-ne-STRUCT : goal.returns-then-kind_on-ne-STRUCT
returns-then-kind_on-ne-STRUCT c = search no_struct

pub returns : goal.returns
returns c = search struct_if
