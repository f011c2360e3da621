-- One field more.
use Rattle.wellformed.proofs.Parts.{good_field}
use Rattle.wellformed.proofs.far_fields.Goals as goal

pub loop-j-preserved : goal.loop-j-preserved
loop-j-preserved c =
    good_field _ _ _ _ _ _ c.loop-j.invariant c.loop-j-test.true _ _ c.head_at-name.ensures c.head_at-t.ensures _ c.field.ensures _ _ c.in_ok-field.was c.larger-d.ensures
