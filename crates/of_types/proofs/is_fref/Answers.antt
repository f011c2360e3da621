-- `of_types::is_fref` meets its contract.
use Rattle.rows.proofs.Arrays.{kind_inside}
use native.Mathlib.Omega.{arith}
use Rattle.of_types.proofs.Ways.{fref_itself, fref_target, fref_other}
use Rattle.of_types.proofs.is_fref.Goals as goal

pub returns-then-k-eq-FREF : goal.returns-then-k-eq-FREF
returns-then-k-eq-FREF c = search fref_itself

pub overflow_add-t : goal.overflow_add-t
overflow_add-t c = omega (arith, kind_inside c.args.words.now c.args.used c.args.t c.kind_on-k.result c.requires c.kind_on-k.ensures (omega (arith, c.if-k-eq-MEM_PTR.true)))

pub returns-then-k-eq-MEM_PTR : goal.returns-then-k-eq-MEM_PTR
returns-then-k-eq-MEM_PTR c = search fref_target

pub returns : goal.returns
returns c = search fref_other
