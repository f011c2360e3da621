-- count_down: the depth falls, and no turn of the loop gives back what is taken.
use Rattle.std.proofs.Common.{◌<◌}
use Rattle.small.proofs.+count_down.Given as goal

abbrev pub decreases-count_down : goal.decreases-count_down
decreases-count_down l = l.deep

abbrev pub invariant-loop-i : goal.invariant-loop-i
invariant-loop-i l = l.rest < l.left
