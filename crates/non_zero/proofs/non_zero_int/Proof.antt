-- `non_zero::non_zero_int` meets its contract: the Int is made, or the answer is there already.
use Rattle.non_zero.proofs.Ways.{int_high, int_begins, int_ends, int_stays}
use borrow.Author.Rules.{rules}
use Rattle.non_zero.proofs.non_zero_int.Statement.{statement}
use Rattle.non_zero.proofs.non_zero_int.Tie as tie

is_less-requires : tie.Need-is_less-requires
is_less-requires c κs = search rules

returns-then-is_less : tie.Need-returns-then-is_less
returns-then-is_less c = search int_high

larger_of-requires : tie.Need-larger_of-requires
larger_of-requires c κs = search rules

int-requires : tie.Need-int-requires
int-requires c κs = search rules

shape_of-new-then-min-eq0 : tie.Need-shape_of-new-then-min-eq0
shape_of-new-then-min-eq0 c = search rules

returns-then-min-eq0 : tie.Need-returns-then-min-eq0
returns-then-min-eq0 c = search int_begins

int-requires-then-max-eq0 : tie.Need-int-requires-then-max-eq0
int-requires-then-max-eq0 c κs = search rules

shape_of-new-then-max-eq0 : tie.Need-shape_of-new-then-max-eq0
shape_of-new-then-max-eq0 c = search rules

returns-then-max-eq0 : tie.Need-returns-then-max-eq0
returns-then-max-eq0 c = search int_ends

returns : tie.Need-returns
returns c = search int_stays

pub non_zero_int_spec : {M : Type 1} → statement M
non_zero_int_spec =
    tie.close
    (tie.spec
    is_less-requires
    returns-then-is_less
    larger_of-requires
    int-requires
    shape_of-new-then-min-eq0
    returns-then-min-eq0
    int-requires-then-max-eq0
    shape_of-new-then-max-eq0
    returns-then-max-eq0
    returns)
