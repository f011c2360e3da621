use Rattle.std.proofs.Common.{arith}
use Rattle.structs.proofs.Filled.{fill_on, fill_end}
use Rattle.structs.proofs.fields_with.Goals as goal

pub loop-i-preserved : goal.loop-i-preserved
loop-i-preserved c =
    let l = c.loop-i.invariant in
    let r = c.requires.types_len_bound in
    fill_on _ _ _ _ _ _ _ l.0 l.1 r.1 r.2 (omega arith) c.loop-i-test.true _ _ _ _ c.word-name.ensures c.word-alias.ensures c.from.ensures c.from-in-loop-i.ensures _ c.write.ensures

pub returns : goal.returns
returns c = search fill_end
