-- What is left from `at` on is the answer and the rest of the number.
use Rattle.std.proofs.Common.{◌-◌}
use Rattle.words.proofs.Looking.{Looking}
use Rattle.words.proofs.look.Given as goal

abbrev pub invariant-loop-at : goal.invariant-loop-at
invariant-loop-at g l = Looking l.words l.base l.from l.to (g.W.Wanted.entry l.entry) l.at l.count

abbrev pub decreases-loop-at : goal.decreases-loop-at
decreases-loop-at g l = l.to - l.at
