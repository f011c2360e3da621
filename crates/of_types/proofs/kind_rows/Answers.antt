-- `of_types::kind_rows` meets its contract.
use Rattle.of_types.proofs.Ways.{kind_2, kind_3, kind_0}
use Rattle.of_types.proofs.kind_rows.Goals as goal

pub returns-then-not-all_start : goal.returns-then-not-all_start
returns-then-not-all_start c = search kind_2

pub returns-then-not-all_kinds : goal.returns-then-not-all_kinds
returns-then-not-all_kinds c = search kind_3

pub returns : goal.returns
returns c = search kind_0
