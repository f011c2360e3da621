-- Up to position `at` the entries are right.
use Rattle.std.proofs.Common.{◌-◌}
use Rattle.source.specs.Source.{stored}
use Rattle.wellformed.specs.Scan.{Passed}
use Rattle.wellformed.proofs.entries_in.Given as goal

abbrev pub invariant-loop-at : goal.invariant-loop-at
invariant-loop-at l = Passed (stored l.words l.tail) l.used l.bits l.at

abbrev pub decreases-loop-at : goal.decreases-loop-at
decreases-loop-at l = l.used - l.at
