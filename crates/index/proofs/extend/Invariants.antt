use Rattle.std.proofs.Common.{◌-◌}
use Rattle.index.proofs.Built.{Built}
use Rattle.index.proofs.extend.Given as goal

abbrev pub invariant-loop-at : goal.invariant-loop-at
invariant-loop-at l = Built l.words l.used l.index l.at

abbrev pub decreases-loop-at : goal.decreases-loop-at
decreases-loop-at l = l.used - l.at
