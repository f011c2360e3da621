-- `rows::tuple_rows` meets its contract.
use Rattle.rows.proofs.Column.{tuple_2, tuple_3, tuple_5, tuple_6, tuple_0}
use Rattle.rows.proofs.tuple_rows.Goals as goal

pub returns-then-not-all_start : goal.returns-then-not-all_start
returns-then-not-all_start c = search tuple_2

pub returns-then-not-all_kinds : goal.returns-then-not-all_kinds
returns-then-not-all_kinds c = search tuple_3

pub returns-then-types-gt-MOST_COUNTED : goal.returns-then-types-gt-MOST_COUNTED
returns-then-types-gt-MOST_COUNTED c = search tuple_5

pub returns-then-deep-gt-DEEPEST_WITHIN : goal.returns-then-deep-gt-DEEPEST_WITHIN
returns-then-deep-gt-DEEPEST_WITHIN c = search tuple_6

pub returns : goal.returns
returns c = search tuple_0
