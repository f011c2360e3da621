-- `of_types::one_of` meets its contract.
use Rattle.of_types.proofs.Ways.{is_first, is_second}
use Rattle.of_types.proofs.one_of.Goals as goal

pub returns-then-t-a : goal.returns-then-t-a
returns-then-t-a c = search is_first

pub returns : goal.returns
returns c = search is_second
