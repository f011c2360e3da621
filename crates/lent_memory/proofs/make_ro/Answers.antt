use Rattle.lent_memory.proofs.Ways.{ros_lent, ro_own, ro_known, ro_lent}
use Rattle.lent_memory.proofs.make_ro.Goals as goal

pub returns-then-n-eq0-clause-right_then : goal.returns-then-n-eq0-clause-right_then
returns-then-n-eq0-clause-right_then c = (ro_own c.requires.ready_one c.requires.right c.make_ro.ensures).1

pub returns-in-Some : goal.returns-in-Some
returns-in-Some c =
    let both = ro_known c.requires.ready_one c.requires.right c.recall.ensures _ c.in-Some.is in
    record { runs = both.0; right_then = both.1 }

pub make_ro_small-requires-clause-lines : goal.make_ro_small-requires-clause-lines
make_ro_small-requires-clause-lines c = ros_lent c.requires.right

pub returns-then-is_small-clause-right_then : goal.returns-then-is_small-clause-right_then
returns-then-is_small-clause-right_then c = (ro_lent c.requires.ready_one c.requires.right c.make_ro_small.ensures.made_ro c.make_ro_small.ensures.right_after c.make_ro_small.auto.memo).1
