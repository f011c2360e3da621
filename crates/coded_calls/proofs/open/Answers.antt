-- As its call is told.
use Rattle.codes.proofs.Told.{coded_open, opening}
use Rattle.coded_calls.proofs.open.Goals as goal

pub returns-clause-value : goal.returns-clause-value
returns-clause-value c = search coded_open

pub returns-clause-coded_opening : goal.returns-clause-coded_opening
returns-clause-coded_opening c = search opening
