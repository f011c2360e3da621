-- A window that is copied: what a run in it says.
use Rattle.std.proofs.Common.{arith, length}
use Rattle.source.proofs.Both.{length_stored}
use Rattle.wellformed.proofs.Passed.{begin, bad}
use Rattle.wellformed.proofs.Windows.{run_bad, run_at, copied_long}
use Rattle.wellformed.proofs.entries_in.Goals as goal

pub loop-at-init : goal.loop-at-init
loop-at-init c = search begin

pub returns-in_default : goal.returns-in_default
returns-in_default c = bad _ _ _ (run_bad _ _ _ _ _ _ c.run.ensures c.in_default.is)

pub returns-then-i-eq0 : goal.returns-then-i-eq0
returns-then-i-eq0 c =
    copied_long _ _ _ c.min-m.result c.requires.le_used.1 c.loop-at-test.true (omega (arith, c.min-m.ensures)) _ _ c.gather.ensures (length c.loop-at.room) _ _ (omega (arith, c.requires.largest_entry_in_bounds, c.loop-at.auto.room)) c.min-m.ensures _ c.run.ensures c.in-Some.is c.if-i-eq0.true

pub overflow_add-at : goal.overflow_add-at
overflow_add-at c =
    let q = run_at _ _ _ _ _ _ c.run.ensures _ c.in-Some.is in
    record { fits = omega (arith, q.0.within, length_stored c.args.words.now c.args.tail.now) }

pub loop-at-preserved : goal.loop-at-preserved
loop-at-preserved c = (run_at _ _ _ _ _ _ c.run.ensures _ c.in-Some.is).0
