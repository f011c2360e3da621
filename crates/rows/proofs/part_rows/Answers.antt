-- `rows::part_rows` meets its contract.
use Rattle.rows.proofs.Column.{part_2, part_3, part_4, part_6, part_0}
use Rattle.rows.proofs.part_rows.Goals as goal

pub returns-then-not-all_start : goal.returns-then-not-all_start
returns-then-not-all_start c = search part_2

pub returns-then-not-all_kinds : goal.returns-then-not-all_kinds
returns-then-not-all_kinds c = search part_3

pub returns-then-not-taken : goal.returns-then-not-taken
returns-then-not-taken c = search part_4

pub returns-then-deep-gt-DEEPEST_WITHIN : goal.returns-then-deep-gt-DEEPEST_WITHIN
returns-then-deep-gt-DEEPEST_WITHIN c = search part_6

pub returns : goal.returns
returns c = search part_0
