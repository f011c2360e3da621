-- As its call is told.
use Rattle.codes.proofs.Told.{coded}
use Rattle.coded_calls.proofs.append.Goals as goal

pub returns : goal.returns
returns c = search coded
