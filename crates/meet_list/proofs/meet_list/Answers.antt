use Rattle.std.proofs.Common.{rules, refl}
use Rattle.meet_list.proofs.Merging.{merging_begin, merging_more, merging_full, merging_done}
use Rattle.meet_list.proofs.meet_list.Goals as goal

pub loop-h-init : goal.loop-h-init
loop-h-init c = record { same_long = refl; merging = merging_begin c.requires.cleared; right = c.requires.right }

pub returns-in_err-met-clause-runs : goal.returns-in_err-met-clause-runs
returns-in_err-met-clause-runs c =
    rw c.from_residual.ensures (merging_full c.requires.cleared c.loop-h.invariant.merging c.loop-h-test.true _ _ c.meet.ensures.runs c.in_err-met.was)

pub loop-h-preserved : goal.loop-h-preserved
loop-h-preserved c = record {
  same_long = search rules;
  merging = merging_more c.requires.cleared c.loop-h.invariant.merging c.loop-h-test.true _ _ c.meet.ensures.runs _ _ c.in_ok-met.was;
  right = c.meet.ensures.right_then.is _ _ c.in_ok-met.was;
}

pub returns-clause-runs : goal.returns-clause-runs
returns-clause-runs c = merging_done c.requires.cleared c.loop-h.invariant.merging c.loop-h-test.false
