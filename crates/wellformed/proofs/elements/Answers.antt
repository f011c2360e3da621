-- One part more.
use Rattle.wellformed.proofs.Parts.{good_part}
use Rattle.wellformed.proofs.elements.Goals as goal

pub loop-i-preserved : goal.loop-i-preserved
loop-i-preserved c = good_part _ _ _ _ _ c.loop-i.invariant c.loop-i-test.true _ c.near_type.ensures _ _ c.in_ok-near_type.was c.larger-d.ensures
