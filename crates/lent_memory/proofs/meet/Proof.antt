-- `lent_memory::meet` meets its contract, with a memory of its own and with the lent one.
use Rattle.finals.proofs.Knows.{knows_blank}
use Rattle.lent_memory.proofs.Ways.{meets_lent, met_own, met_lent}
use borrow.Author.Rules.{rules}
use Rattle.lent_memory.proofs.meet.Statement.{statement}
use Rattle.lent_memory.proofs.meet.Tie as tie

slice_bounds-run-end : tie.Need-slice_bounds-run-end
slice_bounds-run-end c = search rules

run-requires : tie.Need-run-requires
run-requires c κs = (c.requires.0, (knows_blank _ 0, c.requires.1.1))

shape_of-new-then-n-eq0 : tie.Need-shape_of-new-then-n-eq0
shape_of-new-then-n-eq0 c = search rules

returns-then-n-eq0 : tie.Need-returns-then-n-eq0
returns-then-n-eq0 c = met_own c.requires.0 c.requires.1.0 c.run.ensures.0

overflow_mul-n : tie.Need-overflow_mul-n
overflow_mul-n c = search rules

offset_bounds-memory-n : tie.Need-offset_bounds-memory-n
offset_bounds-memory-n c = search rules

slice_bounds-meet_type-count : tie.Need-slice_bounds-meet_type-count
slice_bounds-meet_type-count c = search rules

slice_bounds-meet_type-start : tie.Need-slice_bounds-meet_type-start
slice_bounds-meet_type-start c = search rules

slice_bounds-meet_type-end : tie.Need-slice_bounds-meet_type-end
slice_bounds-meet_type-end c = search rules

meet_type-requires : tie.Need-meet_type-requires
meet_type-requires c κs = (c.requires.0, (meets_lent c.requires.1.0, c.requires.1.1))

shape_of-new : tie.Need-shape_of-new
shape_of-new c = search rules

shape_of-memory : tie.Need-shape_of-memory
shape_of-memory c = search rules

returns : tie.Need-returns
returns c = met_lent c.requires.0 c.requires.1.0 c.meet_type.ensures.0 c.meet_type.ensures.1.after c.meet_type.auto.memo

pub meet_spec : {M : Type 1} → statement M
meet_spec =
    tie.close
    (tie.spec
    slice_bounds-run-end
    run-requires
    shape_of-new-then-n-eq0
    returns-then-n-eq0
    overflow_mul-n
    offset_bounds-memory-n
    slice_bounds-meet_type-count
    slice_bounds-meet_type-start
    slice_bounds-meet_type-end
    meet_type-requires
    shape_of-new
    shape_of-memory
    returns)
