-- `meet_answers::meet_int` meets its contract.
use Rattle.meet_answers.proofs.IntsRead.{met_int}
use borrow.Author.Rules.{rules}
use Rattle.meet_answers.proofs.meet_int.Statement.{statement}
use Rattle.meet_answers.proofs.meet_int.Tie as tie

overflow_add-a : tie.Need-overflow_add-a
overflow_add-a c = search rules

word-requires : tie.Need-word-requires
word-requires c κs = search rules

overflow_add-b : tie.Need-overflow_add-b
overflow_add-b c = search rules

word-requires-2 : tie.Need-word-requires-2
word-requires-2 c κs = search rules

smaller_of-min-requires : tie.Need-smaller_of-min-requires
smaller_of-min-requires c κs = search rules

overflow_add-a-2 : tie.Need-overflow_add-a-2
overflow_add-a-2 c = search rules

word-requires-3 : tie.Need-word-requires-3
word-requires-3 c κs = search rules

overflow_add-b-2 : tie.Need-overflow_add-b-2
overflow_add-b-2 c = search rules

word-requires-4 : tie.Need-word-requires-4
word-requires-4 c κs = search rules

int-requires : tie.Need-int-requires
int-requires c κs = search rules

shape_of-new : tie.Need-shape_of-new
shape_of-new c = search rules

returns : tie.Need-returns
returns c = search met_int

pub meet_int_spec : {M : Type 1} → statement M
meet_int_spec =
    tie.close
    (tie.spec
    overflow_add-a
    word-requires
    overflow_add-b
    word-requires-2
    smaller_of-min-requires
    overflow_add-a-2
    word-requires-3
    overflow_add-b-2
    word-requires-4
    (λ c κs. search rules)
    int-requires
    shape_of-new
    returns)
