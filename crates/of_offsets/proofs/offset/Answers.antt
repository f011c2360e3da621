-- `of_offsets::offset` meets its contract.
use Rattle.of_offsets.proofs.Logs.{read_offset}
use Rattle.of_offsets.proofs.offset.Goals as goal

pub returns : goal.returns
returns c = search read_offset
