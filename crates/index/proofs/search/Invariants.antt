use Rattle.std.proofs.Common.{◌++◌, take}
use Rattle.index.specs.Covers.{indexed_to}
use Rattle.index.proofs.Seek.{Seek}
use Rattle.index.proofs.search.Given as goal

abbrev pub invariant-loop-at : goal.invariant-loop-at
invariant-loop-at g l = Seek (take (indexed_to l.index) (take l.used (l.old ++ l.new))) l.index (g.W.Wanted.entry l.entry) l.at l.lowest

abbrev pub decreases-loop-at : goal.decreases-loop-at
decreases-loop-at g l = l.at
