-- `lent_memory::is_final` meets its contract, with a set of its own and with the lent one.
use Rattle.lent_memory.proofs.Ways.{finals_lent, final_lent}
use borrow.Author.Rules.{rules}
use Rattle.lent_memory.proofs.is_final.Statement.{statement}
use Rattle.lent_memory.proofs.is_final.Tie as tie

is_final-requires : tie.Need-is_final-requires
is_final-requires c κs = search rules

shape_of-scratch-then-n-eq0 : tie.Need-shape_of-scratch-then-n-eq0
shape_of-scratch-then-n-eq0 c = search rules

returns-then-n-eq0 : tie.Need-returns-then-n-eq0
returns-then-n-eq0 c = search rules

overflow_mul-n : tie.Need-overflow_mul-n
overflow_mul-n c = search rules

overflow_mul-n-2 : tie.Need-overflow_mul-n-2
overflow_mul-n-2 c = search rules

offset_bounds-memory-n : tie.Need-offset_bounds-memory-n
offset_bounds-memory-n c = search rules

slice_bounds-is_final-count : tie.Need-slice_bounds-is_final-count
slice_bounds-is_final-count c = search rules

slice_bounds-is_final-start : tie.Need-slice_bounds-is_final-start
slice_bounds-is_final-start c = search rules

slice_bounds-is_final-end : tie.Need-slice_bounds-is_final-end
slice_bounds-is_final-end c = search rules

is_final-requires-2 : tie.Need-is_final-requires-2
is_final-requires-2 c κs = (c.requires.0, finals_lent c.requires.1)

shape_of-memory : tie.Need-shape_of-memory
shape_of-memory c = search rules

returns : tie.Need-returns
returns c = (c.is_final-2.ensures.0, final_lent c.requires.1 c.is_final-2.ensures.1 c.is_final-2.auto.known)

pub is_final_spec : {M : Type 1} → statement M
is_final_spec =
    tie.close
    (tie.spec
    is_final-requires
    shape_of-scratch-then-n-eq0
    returns-then-n-eq0
    overflow_mul-n
    overflow_mul-n-2
    offset_bounds-memory-n
    slice_bounds-is_final-count
    slice_bounds-is_final-start
    slice_bounds-is_final-end
    is_final-requires-2
    shape_of-memory
    returns)
