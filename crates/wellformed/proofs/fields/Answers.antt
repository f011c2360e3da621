-- One field more.
use Rattle.wellformed.proofs.Parts.{good_field}
use Rattle.wellformed.proofs.fields.Goals as goal

pub loop-j-preserved : goal.loop-j-preserved
loop-j-preserved c =
    good_field _ _ _ _ _ _ c.loop-j.invariant c.loop-j-test.true _ _ c.near_head-name.ensures c.near_head-t.ensures _ c.field.ensures _ _ c.in_ok-field.was c.larger-d.ensures
