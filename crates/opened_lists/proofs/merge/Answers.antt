use Rattle.std.proofs.Common.{rules, arith, refl}
use Rattle.parts.proofs.Grew.{grew_high, grew_long}
use Rattle.meet_list.proofs.Merging.{merging_begin, merging_ready, merging_more, merging_full, merging_done, merging_covers}
use Rattle.opened_lists.proofs.merge.Goals as goal

pub loop-h-init : goal.loop-h-init
loop-h-init c = record { same_long = refl; merging = merging_begin c.requires.cleared; opened = c.requires.opened; right = c.requires.right }

pub extend-requires : goal.extend-requires
extend-requires c =
    let inv = c.loop-h.invariant in
    let next = merging_more c.requires.cleared inv.merging c.loop-h-test.true _ _ c.meet.ensures.runs _ _ c.in_ok-met.was in
    (omega (arith, grew_high next.grew, grew_long next.grew), next.good.sound.full, merging_covers c.requires.cleared inv.merging c.loop-h-test.true _ _ c.meet.ensures.runs _ _ c.in_ok-met.was inv.opened.covers)

pub returns-in_err-met-clause-runs : goal.returns-in_err-met-clause-runs
returns-in_err-met-clause-runs c =
    rw c.from_residual.ensures (merging_full c.requires.cleared c.loop-h.invariant.merging c.loop-h-test.true _ _ c.meet.ensures.runs c.in_err-met.was)

pub loop-h-preserved : goal.loop-h-preserved
loop-h-preserved c = record {
  same_long = search rules;
  merging = merging_more c.requires.cleared c.loop-h.invariant.merging c.loop-h-test.true _ _ c.meet.ensures.runs _ _ c.in_ok-met.was;
  opened = c.extend.ensures;
  right = c.meet.ensures.right_then.is _ _ c.in_ok-met.was;
}

pub returns-clause-runs : goal.returns-clause-runs
returns-clause-runs c = merging_done c.requires.cleared c.loop-h.invariant.merging c.loop-h-test.false
