-- As its call is told.
use Rattle.codes.proofs.Told.{coded_done}
use Rattle.coded_calls.proofs.fresh.Goals as goal

pub returns : goal.returns
returns c = search coded_done
