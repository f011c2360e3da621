-- As its call is told.
use Rattle.codes.proofs.Told.{coded_which}
use Rattle.coded_calls.proofs.opened_ask_which.Goals as goal

pub returns-clause-coded_which : goal.returns-clause-coded_which
returns-clause-coded_which c = search coded_which
