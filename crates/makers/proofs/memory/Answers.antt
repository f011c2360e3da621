use Rattle.makers.proofs.Built.{memory_made}
use Rattle.makers.proofs.memory.Goals as goal

pub returns : goal.returns
returns c = search memory_made
