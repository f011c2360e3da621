use Rattle.words.proofs.Placed.{there, appended, no_room}
use Rattle.index.proofs.intern_wanted.Goals as goal

pub returns-in-Some : goal.returns-in-Some
returns-in-Some g c = search there

pub returns-then-new-at : goal.returns-then-new-at
returns-then-new-at g c = search no_room

pub returns : goal.returns
returns g c = search appended
