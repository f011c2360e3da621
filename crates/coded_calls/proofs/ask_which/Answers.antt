-- As its call is told.
use Rattle.codes.proofs.Told.{coded_which}
use Rattle.coded_calls.proofs.ask_which.Goals as goal

pub returns : goal.returns
returns c = search coded_which
