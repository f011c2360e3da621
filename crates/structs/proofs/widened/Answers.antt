use Rattle.std.proofs.Common.{arith}
use Rattle.structs.proofs.Narrow.{widen_on, widen_end}
use Rattle.structs.proofs.widened.Goals as goal

pub loop-i-preserved : goal.loop-i-preserved
loop-i-preserved c =
    let l = c.loop-i.invariant in
    widen_on _ _ _ _ l.0 l.1 c.requires (omega arith) c.loop-i-test.true _ c.from.ensures

pub returns : goal.returns
returns c = search widen_end
