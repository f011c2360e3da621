-- `of_types::log_size` meets its contract.
use Rattle.rows.proofs.Arrays.{kind_inside}
use native.Mathlib.Omega.{arith}
use Rattle.of_types.proofs.Ways.{log_int, log_float, log_pointer, log_other}
use Rattle.of_types.proofs.log_size.Goals as goal

pub int_log_size-requires : goal.int_log_size-requires
int_log_size-requires c = (c.requires, omega (arith, kind_inside c.args.words.now c.args.used c.args.t c.kind_on-k.result c.requires c.kind_on-k.ensures (omega (arith, c.if-k-eq-INT.true))))

pub returns-then-k-eq-INT : goal.returns-then-k-eq-INT
returns-then-k-eq-INT c = search log_int

pub overflow_add-t : goal.overflow_add-t
overflow_add-t c = omega (arith, kind_inside c.args.words.now c.args.used c.args.t c.kind_on-k.result c.requires c.kind_on-k.ensures (omega (arith, c.if-k-eq-FLOAT.true)))

pub overflow_add-t-then-k-eq-FLOAT : goal.overflow_add-t-then-k-eq-FLOAT
overflow_add-t-then-k-eq-FLOAT c = omega (arith, kind_inside c.args.words.now c.args.used c.args.t c.kind_on-k.result c.requires c.kind_on-k.ensures (omega (arith, c.if-k-eq-FLOAT.true)))

pub returns-then-k-eq-FLOAT : goal.returns-then-k-eq-FLOAT
returns-then-k-eq-FLOAT c = search log_float

pub returns-then-k-eq-MEM_PTR : goal.returns-then-k-eq-MEM_PTR
returns-then-k-eq-MEM_PTR c = search log_pointer

pub returns : goal.returns
returns c = search log_other
