use Rattle.std.proofs.Common.{arith}
use Rattle.names.proofs.Number.{last_none, last_room, last_more, last_all}
use Rattle.names.proofs.Name.last_eight.Goals as goal

pub loop-k-init : goal.loop-k-init
loop-k-init c = last_none _ _

pub overflow_mul-w : goal.overflow_mul-w
overflow_mul-w c = let h = last_room _ _ _ _ c.loop-k.invariant c.loop-k-test.true in record { fits = omega arith }

pub overflow_add-w : goal.overflow_add-w
overflow_add-w c = let h = last_room _ _ _ _ c.loop-k.invariant c.loop-k-test.true in record { fits = omega arith }

pub loop-k-preserved : goal.loop-k-preserved
loop-k-preserved c = last_more _ _ _ _ c.loop-k.invariant _ c.loop-k-test.true (omega arith) (cc)

pub returns : goal.returns
returns c = last_all _ _ _ _ c.loop-k.invariant (omega arith)
