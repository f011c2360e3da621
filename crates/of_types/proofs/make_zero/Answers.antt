-- `of_types::make_zero` meets its contract.
use Rattle.of_types.proofs.Ways.{zero_kind}
use Rattle.of_types.proofs.make_zero.Goals as goal

pub returns : goal.returns
returns c = search zero_kind
