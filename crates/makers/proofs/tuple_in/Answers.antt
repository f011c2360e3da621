use Rattle.makers.proofs.Built.{tuple_made}
use Rattle.makers.proofs.tuple_in.Goals as goal

pub returns : goal.returns
returns g c = search tuple_made
