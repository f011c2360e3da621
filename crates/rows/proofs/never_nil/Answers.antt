-- `rows::never_nil` meets its contract.
use native.Mathlib.Omega.{arith}
use Rattle.rows.proofs.Arrays.{kind_inside, no_pointer, a_pointer}
use Rattle.rows.proofs.never_nil.Goals as goal

pub returns-then-kind_on-ne-MEM_PTR : goal.returns-then-kind_on-ne-MEM_PTR
returns-then-kind_on-ne-MEM_PTR c = search no_pointer

pub overflow_add-body : goal.overflow_add-body
overflow_add-body c =
    omega (arith, kind_inside c.args.words.now c.args.used c.args.body c.kind_on.result c.requires c.kind_on.ensures (omega (arith, c.if-kind_on-ne-MEM_PTR.false)))

pub returns : goal.returns
returns c = search a_pointer
