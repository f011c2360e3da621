use Rattle.std.proofs.Common.{arith}
use Rattle.index.proofs.Seek.{seek_last, seek_some, seek_falls}
use Rattle.index.proofs.Chain.{empty_index, chain_start, chain_starts, chain_next}
use Rattle.index.proofs.search.Goals.{then-is_at, else-is_at}
use Rattle.index.proofs.search.Goals as goal

pub returns-then-half-eq0 : goal.returns-then-half-eq0
returns-then-half-eq0 g c = empty_index _ _ c.requires.covers c.if-half-eq0.true _

pub loop-at-init : goal.loop-at-init
loop-at-init g c = search chain_start

pub is_at-requires : goal.is_at-requires
is_at-requires g c = (c.requires.segments, chain_starts _ _ c.requires.covers _ _ _ c.loop-at.invariant c.loop-at-test.true)

pub overflow_sub-at : goal.overflow_sub-at
overflow_sub-at g c = seek_some _ _ _ _ _ c.loop-at.invariant c.loop-at-test.true

pub loop-at-smaller : goal.loop-at-smaller
loop-at-smaller g c = omega (arith, seek_some _ _ _ _ _ c.loop-at.invariant c.loop-at-test.true, seek_falls _ _ _ _ _ c.loop-at.invariant c.loop-at-test.true)

pub loop-at-preserved : goal.loop-at-preserved
loop-at-preserved g c =
    let next = chain_next _ _ c.requires.covers _ _ _ c.loop-at.invariant c.loop-at-test.true in
    next _ c.is_at.ensures _ (elim c.if-is_at.branch [ then-is_at w ↦ rw w.if-is_at.true w.lowest-is | else-is_at w ↦ rw w.if-is_at.false w.lowest-is ])

pub returns : goal.returns
returns g c = seek_last _ _ _ _ _ c.loop-at.invariant c.loop-at-test.false
