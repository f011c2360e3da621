use Rattle.makers.proofs.Built.{pointer_made}
use Rattle.makers.proofs.pointer.Goals as goal

pub returns : goal.returns
returns c = search pointer_made
