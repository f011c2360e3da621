use Rattle.std.proofs.Common.{arith, rules, ◌≤◌, get_or}
use Rattle.layout.proofs.Pass.{begin, log_small, places_fit, placed, all_placed}
use Rattle.layout.proofs.place.Goals as goal

pub loop-x-init : goal.loop-x-init
loop-x-init c = (search rules, begin _ _ c.requires.2)

pub offset_bounds-next-log : goal.offset_bounds-next-log
offset_bounds-next-log c = omega (arith, log_small _ _ _ _ c.loop-x.invariant.1 c.requires.1 (omega arith))

pub bounds-next-log : goal.bounds-next-log
bounds-next-log c = omega (arith, log_small _ _ _ _ c.loop-x.invariant.1 c.requires.1 (omega arith))

pub add-requires : goal.add-requires
add-requires c =
    let log : get_or c.loop-x.list c.loop-x.x-index 0 ≤ 3 = log_small _ _ _ _ c.loop-x.invariant.1 c.requires.1 (omega arith) in
    (log, places_fit _ _ _ c.loop-x.x-index _ c.requires.0 c.requires.1 c.loop-x.invariant.1 log)

pub loop-x-preserved : goal.loop-x-preserved
loop-x-preserved c =
    (search rules, placed _ _ _ _ _ (omega arith) (omega arith) c.requires.1 c.loop-x.invariant.1 c.add.ensures)

pub returns : goal.returns
returns c = all_placed _ _ _ _ (omega arith) (omega arith) c.loop-x.invariant.1
