-- `of_types::side_of` meets its contract.
use Rattle.rows.proofs.Arrays.{kind_inside}
use native.Mathlib.Omega.{arith}
use Rattle.of_types.proofs.Ways.{side_top, side_xctrl, side_int, side_float, side_pointer, side_other}
use Rattle.of_types.proofs.side_of.Goals as goal

pub returns-then-k-eq-TOP : goal.returns-then-k-eq-TOP
returns-then-k-eq-TOP c = search side_top

pub returns-then-k-eq-XCTRL : goal.returns-then-k-eq-XCTRL
returns-then-k-eq-XCTRL c = search side_xctrl

pub int_side_at-requires : goal.int_side_at-requires
int_side_at-requires c = let k = c.before.before.before in let s = k.before.before.before in (c.requires, let k = c.before.before.before in let s = k.before.before.before in omega (arith, kind_inside c.args.words.now c.args.used c.args.t c.kind_on-k.result c.requires c.kind_on-k.ensures (omega (arith, c.if-k-eq-INT.true))))

pub returns-then-k-eq-INT : goal.returns-then-k-eq-INT
returns-then-k-eq-INT c = search side_int

pub overflow_add-t : goal.overflow_add-t
overflow_add-t c = omega (arith, kind_inside c.args.words.now c.args.used c.args.t c.kind_on-k.result c.requires c.kind_on-k.ensures (omega (arith, c.if-k-eq-FLOAT.true)))

pub returns-then-k-eq-FLOAT : goal.returns-then-k-eq-FLOAT
returns-then-k-eq-FLOAT c = search side_float

pub returns-then-k-eq-MEM_PTR : goal.returns-then-k-eq-MEM_PTR
returns-then-k-eq-MEM_PTR c = search side_pointer

pub returns : goal.returns
returns c = search side_other
