-- `meet_answers::meet_float` meets its contract: both floats are read from their words, and the meet of the readings is a handle.
use Rattle.meet_answers.proofs.FloatsRead.{size_read, float_read, floats_met}
use borrow.Author.Rules.{rules}
use Rattle.meet_answers.proofs.meet_float.Statement.{statement}
use Rattle.meet_answers.proofs.meet_float.Tie as tie

overflow_add-a : tie.Need-overflow_add-a
overflow_add-a c = search rules

word-requires : tie.Need-word-requires
word-requires c κs = search rules

overflow_add-a-2 : tie.Need-overflow_add-a-2
overflow_add-a-2 c = search rules

word-requires-2 : tie.Need-word-requires-2
word-requires-2 c κs = search rules

float_of-f-requires : tie.Need-float_of-f-requires
float_of-f-requires c κs = search size_read

overflow_add-b : tie.Need-overflow_add-b
overflow_add-b c = search rules

word-requires-3 : tie.Need-word-requires-3
word-requires-3 c κs = search rules

overflow_add-b-2 : tie.Need-overflow_add-b-2
overflow_add-b-2 c = search rules

word-requires-4 : tie.Need-word-requires-4
word-requires-4 c κs = search rules

float_of-g-requires : tie.Need-float_of-g-requires
float_of-g-requires c κs = search size_read

meet-requires : tie.Need-meet-requires
meet-requires c κs = search rules

float_handle-requires : tie.Need-float_handle-requires
float_handle-requires c κs = search rules

returns : tie.Need-returns
returns c = search (floats_met, float_read)

pub meet_float_spec : {M : Type 1} → statement M
meet_float_spec =
    tie.close
    (tie.spec
    overflow_add-a
    word-requires
    overflow_add-a-2
    word-requires-2
    float_of-f-requires
    overflow_add-b
    word-requires-3
    overflow_add-b-2
    word-requires-4
    float_of-g-requires
    meet-requires
    float_handle-requires
    returns)
