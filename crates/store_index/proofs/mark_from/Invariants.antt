use Rattle.std.proofs.Common.{◌-◌}
use Rattle.store_index.proofs.Marks.{Marked}
use Rattle.store_index.proofs.mark_from.Given as goal

abbrev pub invariant-loop-at : goal.invariant-loop-at
invariant-loop-at l = Marked l.words l.used l.bits l.at

abbrev pub decreases-loop-at : goal.decreases-loop-at
decreases-loop-at l = l.used - l.at
