use Rattle.std.proofs.Common.{◌∙◌, arith}
use Rattle.words.proofs.Passing.{stops_inside}
use Rattle.words.proofs.Looking.{looking_on, looking_last, looking_hit, looking_miss}
use Rattle.words.proofs.look.Goals as goal

pub returns-then-to-at : goal.returns-then-to-at
returns-then-to-at g c = looking_last _ _ _ _ _ _ _ (looking_on _ _ _ _ _ _ _ c.loop-at.invariant _ _ c.head-head.ensures c.pass_over-at.ensures) c.if-to-at.true

pub overflow_add-at : goal.overflow_add-at
overflow_add-at g c = let h = stops_inside _ _ _ _ _ _ c.pass_over-at.ensures c.requires.0 c.size-n.ensures c.if-to-at.false in record { fits = omega arith }

pub slice_bounds-same-end : goal.slice_bounds-same-end
slice_bounds-same-end g c = let h = stops_inside _ _ _ _ _ _ c.pass_over-at.ensures c.requires.0 c.size-n.ensures c.if-to-at.false in omega arith

pub returns-then-same : goal.returns-then-same
returns-then-same g c =
    let h = stops_inside _ _ _ _ _ _ c.pass_over-at.ensures c.requires.0 c.size-n.ensures c.if-to-at.false in
    let l = looking_on _ _ _ _ _ _ _ c.loop-at.invariant _ _ c.head-head.ensures c.pass_over-at.ensures in
    looking_hit _ _ _ _ _ _ _ l c.requires.0 c.if-to-at.false (c.pass_over-at.ensures.here c.if-to-at.false ∙ c.head-head.ensures) _ h.0 _ c.same.ensures c.if-same.true

pub loop-at-smaller : goal.loop-at-smaller
loop-at-smaller g c = let h = stops_inside _ _ _ _ _ _ c.pass_over-at.ensures c.requires.0 c.size-n.ensures c.if-to-at.false in omega (arith, c.pass_over-at.ensures.onward)

pub loop-at-preserved : goal.loop-at-preserved
loop-at-preserved g c =
    let h = stops_inside _ _ _ _ _ _ c.pass_over-at.ensures c.requires.0 c.size-n.ensures c.if-to-at.false in
    let l = looking_on _ _ _ _ _ _ _ c.loop-at.invariant _ _ c.head-head.ensures c.pass_over-at.ensures in
    looking_miss _ _ _ _ _ _ _ l c.requires.0 c.if-to-at.false (c.pass_over-at.ensures.here c.if-to-at.false ∙ c.head-head.ensures) _ h.0 _ c.same.ensures c.if-same.false

pub returns : goal.returns
returns g c = looking_last _ _ _ _ _ _ _ c.loop-at.invariant c.loop-at-test.false
