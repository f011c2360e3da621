-- As its call is told.
use Rattle.codes.proofs.Told.{coded}
use Rattle.coded_calls.proofs.opened_fill.Goals as goal

pub returns-clause-coded : goal.returns-clause-coded
returns-clause-coded c = search coded
