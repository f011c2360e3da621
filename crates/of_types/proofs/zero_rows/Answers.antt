-- `of_types::zero_rows` meets its contract.
use Rattle.of_types.proofs.Ways.{kind_2, kind_3, kind_0, only}
use Rattle.of_types.proofs.zero_rows.Goals as goal

pub returns-then-not-all_start : goal.returns-then-not-all_start
returns-then-not-all_start c = search kind_2

pub returns-then-not-has_zero : goal.returns-then-not-has_zero
returns-then-not-has_zero c = search (kind_3, only)

pub returns : goal.returns
returns c = search (kind_0, only)
