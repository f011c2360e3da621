-- `of_structs::find_rows` meets its contract.
use Rattle.of_structs.proofs.Column.{find_2, find_3_struct, find_3_name, find_7, find_0}
use Rattle.of_structs.proofs.find_rows.Goals as goal

pub returns-then-not-all_start : goal.returns-then-not-all_start
returns-then-not-all_start c = search find_2

pub returns-then-not-all_kinds : goal.returns-then-not-all_kinds
returns-then-not-all_kinds c = search find_3_struct

pub returns-then-not-all_kinds-2 : goal.returns-then-not-all_kinds-2
returns-then-not-all_kinds-2 c = search find_3_name

pub returns-then-kind_on-eq-FREF : goal.returns-then-kind_on-eq-FREF
returns-then-kind_on-eq-FREF c = search find_7

pub returns : goal.returns
returns c = search find_0
