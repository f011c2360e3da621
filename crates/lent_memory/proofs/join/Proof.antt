-- `lent_memory::join` meets its contract, with a memory of its own and with the lent one.
use Rattle.lent_memory.proofs.Parts.{front_long}
use Rattle.lent_memory.proofs.Ways.{both_lent, joined_own, joined_lent}
use borrow.Author.Rules.{rules}
use Rattle.lent_memory.proofs.join.Statement.{statement}
use Rattle.lent_memory.proofs.join.Tie as tie

join-requires : tie.Need-join-requires
join-requires c κs = search rules

shape_of-new-then-n-eq0 : tie.Need-shape_of-new-then-n-eq0
shape_of-new-then-n-eq0 c = search rules

returns-then-n-eq0 : tie.Need-returns-then-n-eq0
returns-then-n-eq0 c = joined_own c.requires.0 c.requires.1.0 _ c.join.ensures

overflow_mul-n : tie.Need-overflow_mul-n
overflow_mul-n c = search rules

slice_bounds-join-end : tie.Need-slice_bounds-join-end
slice_bounds-join-end c = search rules

slice_bounds-join-end-2 : tie.Need-slice_bounds-join-end-2
slice_bounds-join-end-2 c = front_long c.args.memory.now

join-requires-2 : tie.Need-join-requires-2
join-requires-2 c κs = (c.requires.0, (both_lent c.requires.1.0, c.requires.1.1))

shape_of-new : tie.Need-shape_of-new
shape_of-new c = search rules

shape_of-memory : tie.Need-shape_of-memory
shape_of-memory c = search rules

returns : tie.Need-returns
returns c = joined_lent c.requires.0 c.requires.1.0 _ c.join-2.ensures.0 c.join-2.ensures.1 c.join-2.auto.memory

pub join_spec : {M : Type 1} → statement M
join_spec =
    tie.close
    (tie.spec
    join-requires
    shape_of-new-then-n-eq0
    returns-then-n-eq0
    overflow_mul-n
    slice_bounds-join-end
    slice_bounds-join-end-2
    join-requires-2
    shape_of-new
    shape_of-memory
    returns)
