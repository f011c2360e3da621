-- `of_structs::fields_rows` meets its contract.
use Rattle.of_structs.proofs.Column.{fields_2, fields_3, fields_7, fields_0}
use Rattle.of_structs.proofs.fields_rows.Goals as goal

pub returns-then-not-all_start : goal.returns-then-not-all_start
returns-then-not-all_start c = search fields_2

pub returns-then-not-all_kinds : goal.returns-then-not-all_kinds
returns-then-not-all_kinds c = search fields_3

pub returns-then-kind_on-eq-FREF : goal.returns-then-kind_on-eq-FREF
returns-then-kind_on-eq-FREF c = search fields_7

pub returns : goal.returns
returns c = search fields_0
