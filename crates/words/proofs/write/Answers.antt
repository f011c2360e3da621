use Rattle.std.proofs.Common.{arith}
use Rattle.words.proofs.Copy.{front_none, front_more, front_all}
use Rattle.words.proofs.write.Goals as goal

pub loop-i-init : goal.loop-i-init
loop-i-init c = front_none _ _

pub loop-i-preserved : goal.loop-i-preserved
loop-i-preserved c = front_more _ _ _ _ c.loop-i.invariant (omega arith) c.requires

pub returns : goal.returns
returns c = front_all _ _ _ c.loop-i.i c.loop-i.invariant (omega arith) (omega arith)
