use Rattle.std.proofs.Common.{refl, arith, rules}
use Rattle.layout.proofs.Pass.{zeros, sums_fit, summed, all_summed, end_fits}
use Rattle.layout.proofs.add_up.Goals as goal

pub loop-log-init : goal.loop-log-init
loop-log-init c = (refl, zeros c.args.logs.now _ refl)

pub add-requires : goal.add-requires
add-requires c =
    (c.requires.1 _ (omega arith), sums_fit c.args.logs.now c.loop-log.sums c.loop-log.log-index _ c.requires.0 c.requires.1 c.loop-log.invariant.1)

pub loop-log-preserved : goal.loop-log-preserved
loop-log-preserved c =
    (search rules, summed c.args.logs.now c.loop-log.sums c.add.new.sums c.loop-log.log-index (omega arith) c.loop-log.invariant.1 c.add.ensures)

pub returns-clause-few : goal.returns-clause-few
returns-clause-few c =
    end_fits c.args.logs.now c.loop-log.sums c.requires.1 (all_summed c.args.logs.now c.loop-log.sums c.loop-log.log-index (omega arith) c.loop-log.invariant.1) c.requires.0
