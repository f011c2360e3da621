use Rattle.std.proofs.Common.{arith}
use Rattle.walk_fields.proofs.Finals.{finals_on, finals_end}
use Rattle.walk_fields.proofs.finals_of.Goals as goal

pub loop-i-preserved : goal.loop-i-preserved
loop-i-preserved c =
    let l = c.loop-i.invariant in
    finals_on _ _ _ _ _ _ _ l.0 l.1 c.requires.n_in_bounds.0 (omega arith) c.loop-i-test.true _ _ c.word.ensures c.final_of.ensures.0

pub returns : goal.returns
returns c = search finals_end
