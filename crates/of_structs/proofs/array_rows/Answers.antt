-- `of_structs::array_rows` meets its contract.
use Rattle.of_structs.proofs.Column.{array_2, array_3, array_0}
use Rattle.of_structs.proofs.array_rows.Goals as goal

pub returns-then-not-all_start : goal.returns-then-not-all_start
returns-then-not-all_start c = search array_2

pub returns-then-not-is_array : goal.returns-then-not-is_array
returns-then-not-is_array c = search array_3

pub returns : goal.returns
returns c = search array_0
