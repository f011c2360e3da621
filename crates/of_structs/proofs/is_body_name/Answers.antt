-- `of_structs::is_body_name` meets its contract.
use native.Mathlib.Omega.{arith}
use Rattle.of_structs.proofs.Bodies.{some_inside, no_body, body_if}
use Rattle.of_structs.proofs.is_body_name.Goals as goal

pub returns-then-word-ne-BODY_NAME_HEAD : goal.returns-then-word-ne-BODY_NAME_HEAD
returns-then-word-ne-BODY_NAME_HEAD c = search no_body

pub overflow_add-h : goal.overflow_add-h
overflow_add-h c =
    omega (arith, some_inside c.args.words.now c.args.used c.args.h c.word.result c.requires c.word.ensures (omega (arith, c.if-word-ne-BODY_NAME_HEAD.false)))

pub returns : goal.returns
returns c = search body_if
