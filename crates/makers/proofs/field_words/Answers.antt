use Rattle.std.proofs.Common.{arith}
use Rattle.makers.proofs.Fields.{alias_fits, final_fits, fields_on, fields_all}
use Rattle.makers.proofs.field_words.Goals as goal

pub overflow_mul-flags : goal.overflow_mul-flags
overflow_mul-flags c = omega (arith, alias_fits c.args.fields.now c.requires.values_fit c.loop-i.i c.loop-i-test.true)

pub overflow_add-flags-in-loop-i-2 : goal.overflow_add-flags-in-loop-i-2
overflow_add-flags-in-loop-i-2 c =
    let t = c.loop-i-test.true in
    omega (arith, alias_fits c.args.fields.now c.requires.values_fit c.loop-i.i t, final_fits c.args.fields.now c.requires.values_fit c.loop-i.i t)

pub loop-i-preserved : goal.loop-i-preserved
loop-i-preserved c =
    let l = c.loop-i.invariant in
    fields_on _ _ _ _ _ l.0 l.1 c.loop-i-test.true (omega arith) (omega arith) _ c.write.ensures

pub returns : goal.returns
returns c = search fields_all
