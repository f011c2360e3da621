use Rattle.std.proofs.Common.{get_or, arith}
use Rattle.words.proofs.Walk.{inside, size_pos}
use Rattle.search_c.proofs.Before.{none_left, hit, missed}
use Rattle.search_c.proofs.look_before.Goals as goal

pub overflow_add-at : goal.overflow_add-at
overflow_add-at g c = let h = inside _ _ _ c.requires.0 c.loop-at-test.true c.loop-at.invariant.0 in record { fits = omega arith }

pub slice_bounds-same-end : goal.slice_bounds-same-end
slice_bounds-same-end g c = let h = inside _ _ _ c.requires.0 c.loop-at-test.true c.loop-at.invariant.0 in omega arith

pub returns-then-same : goal.returns-then-same
returns-then-same g c = hit _ _ _ _ _ c.loop-at.invariant.1 _ _ c.requires.0 c.loop-at-test.true c.loop-at.invariant.0 c.size_before-n.ensures c.same.ensures c.if-same.true

pub loop-at-smaller : goal.loop-at-smaller
loop-at-smaller g c =
    let h = inside _ _ _ c.requires.0 c.loop-at-test.true c.loop-at.invariant.0 in
    omega (arith, size_pos (get_or c.args.words.now c.loop-at.at 0))

pub loop-at-preserved : goal.loop-at-preserved
loop-at-preserved g c = missed _ _ _ _ _ c.loop-at.invariant.1 _ _ c.requires.0 c.loop-at-test.true c.loop-at.invariant.0 c.size_before-n.ensures c.same.ensures c.if-same.false

pub returns : goal.returns
returns g c = none_left _ _ _ _ _ c.loop-at.invariant.1 c.loop-at-test.false
