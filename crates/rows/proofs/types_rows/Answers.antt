-- `rows::types_rows` meets its contract.
use Rattle.rows.proofs.Column.{types_2, types_3, types_0}
use Rattle.rows.proofs.types_rows.Goals as goal

pub returns-then-not-all_start : goal.returns-then-not-all_start
returns-then-not-all_start c = search types_2

pub returns-then-not-all_kinds : goal.returns-then-not-all_kinds
returns-then-not-all_kinds c = search types_3

pub returns : goal.returns
returns c = search types_0
