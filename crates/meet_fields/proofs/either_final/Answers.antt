use Rattle.std.proofs.Common.{arith}
use Rattle.meet_fields.proofs.Finals.{either_on, either_end}
use Rattle.meet_fields.proofs.either_final.Goals as goal

pub loop-i-preserved : goal.loop-i-preserved
loop-i-preserved c =
    let l = c.loop-i.invariant in
    either_on _ _ _ _ _ _ _ l.0 l.1 c.requires.n_in_bounds.0 (omega arith) c.loop-i-test.true _ _ _ c.word-f.ensures c.word-g.ensures c.max.ensures

pub returns : goal.returns
returns c = search either_end
