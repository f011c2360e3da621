-- `of_structs::is_ary` meets its contract.
use native.Mathlib.Omega.{arith}
use Rattle.of_structs.proofs.Bodies.{some_inside, no_pair, pair_if}
use Rattle.of_structs.proofs.is_ary.Goals as goal

pub returns-then-word-ne2 : goal.returns-then-word-ne2
returns-then-word-ne2 c = search no_pair

pub overflow_add-s : goal.overflow_add-s
overflow_add-s c =
    omega (arith, some_inside c.args.words.now c.args.used c.args.s c.word.result c.requires c.word.ensures (omega (arith, c.if-word-ne2.false)))

pub returns : goal.returns
returns c = search pair_if
