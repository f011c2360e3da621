use Rattle.std.proofs.Common.{arith}
use Rattle.store_index.proofs.Marks.{mark_first, mark_inside, mark_more}
use Rattle.store_index.proofs.mark_from.Goals as goal

pub loop-at-init : goal.loop-at-init
loop-at-init c =
    let q = c.requires.from_le_used in
    let w = c.requires.words_value in
    mark_first _ _ _ _ q.1 w.1 q.0 w.0 w.2 w.3

pub overflow_add-at : goal.overflow_add-at
overflow_add-at c = omega (arith, mark_inside _ _ _ _ c.requires.from_le_used.1 c.loop-at.invariant c.loop-at-test.true)

pub loop-at-preserved : goal.loop-at-preserved
loop-at-preserved c = mark_more _ _ _ _ c.requires.from_le_used.1 c.loop-at.invariant c.loop-at-test.true _ _ c.size-at.ensures c.mark.ensures
