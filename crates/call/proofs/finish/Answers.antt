use Rattle.call.proofs.Ways.{fin_at}
use Rattle.call.proofs.finish.Goals as goal

pub returns-in-Some : goal.returns-in-Some
returns-in-Some c = search fin_at
