-- `rows::fref_rows` meets its contract.
use Rattle.rows.proofs.Column.{fref_2, fref_3, fref_0}
use Rattle.rows.proofs.fref_rows.Goals as goal

pub returns-then-not-all_start : goal.returns-then-not-all_start
returns-then-not-all_start c = search fref_2

pub returns-then-not-all_kinds : goal.returns-then-not-all_kinds
returns-then-not-all_kinds c = search fref_3

pub returns : goal.returns
returns c = search fref_0
