-- `of_offsets::ary_scale` meets its contract.
use Rattle.of_offsets.proofs.Logs.{read_scale}
use Rattle.of_offsets.proofs.ary_scale.Goals as goal

pub returns : goal.returns
returns c = search read_scale
