-- `of_types::make_init` meets its contract.
use Rattle.of_types.proofs.Ways.{init_top, init_zero}
use Rattle.of_types.proofs.make_init.Goals as goal

pub returns-then-never_nil : goal.returns-then-never_nil
returns-then-never_nil c = search init_top

pub returns : goal.returns
returns c = search init_zero
