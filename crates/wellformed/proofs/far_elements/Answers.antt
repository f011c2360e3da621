-- One part more.
use Rattle.wellformed.proofs.Parts.{good_part}
use Rattle.wellformed.proofs.far_elements.Goals as goal

pub loop-h-preserved : goal.loop-h-preserved
loop-h-preserved c = good_part _ _ _ _ _ c.loop-h.invariant c.loop-h-test.true _ c.part.ensures _ _ c.in_ok-part.was c.larger-d.ensures
