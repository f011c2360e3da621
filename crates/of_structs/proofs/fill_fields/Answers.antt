-- The loop's ways.
use Rattle.std.proofs.Common.{ℕ, ◌/◌, refl, ap, arith, rules}
use Rattle.of_structs.proofs.Lent.{lent_begin, lent_on, lent_all}
use Rattle.of_structs.proofs.fill_fields.Goals as goal

pub loop-i-init : goal.loop-i-init
loop-i-init c = (refl, search lent_begin, refl)

pub loop-i-preserved : goal.loop-i-preserved
loop-i-preserved c =
    let l = c.loop-i.invariant in
    let next = lent_on _ _ _ _ _ _ l.1 l.2 c.loop-i-test.true (omega (arith, c.word.ensures, c.requires.s_bound.1)) l.0 _ _ _ c.word-name.ensures c.word-field_type.ensures c.word-flags.ensures _ c.write.ensures in
    (search rules, next.0, next.1)

pub returns : goal.returns
returns c =
    let l = c.loop-i.invariant in
    lent_all _ _ _ _ _ _ l.1 l.2 (ap (λ (w : ℕ). w / 65536) c.word.ensures) (omega arith) (omega arith)
