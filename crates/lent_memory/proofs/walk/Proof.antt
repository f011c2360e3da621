-- `lent_memory::walk` meets its contract, with a memory of its own and with the lent one.
use Rattle.finals.proofs.Knows.{knows_blank}
use Rattle.lent_memory.proofs.Ways.{walk_end, walks_lent, walked_own, walked_lent}
use borrow.Author.Rules.{rules}
use Rattle.lent_memory.proofs.walk.Statement.{statement}
use Rattle.lent_memory.proofs.walk.Tie as tie

slice_bounds-run-end : tie.Need-slice_bounds-run-end
slice_bounds-run-end c = search rules

run-requires : tie.Need-run-requires
run-requires c κs = (c.requires.0, (knows_blank _ 0, c.requires.1.1))

shape_of-new-then-n-eq0 : tie.Need-shape_of-new-then-n-eq0
shape_of-new-then-n-eq0 c = search rules

returns-then-n-eq0 : tie.Need-returns-then-n-eq0
returns-then-n-eq0 c = walked_own c.requires.0 c.requires.1.0 c.run.ensures.0

part_of-requires : tie.Need-part_of-requires
part_of-requires c κs = search rules

overflow_mul-from : tie.Need-overflow_mul-from
overflow_mul-from c = let h = walk_end c.args.memory.now c.args.op c.part_of.result c.part_of.ensures in search rules

overflow_add-end : tie.Need-overflow_add-end
overflow_add-end c = let h = walk_end c.args.memory.now c.args.op c.part_of.result c.part_of.ensures in search rules

offset_bounds-memory-from : tie.Need-offset_bounds-memory-from
offset_bounds-memory-from c = let h = walk_end c.args.memory.now c.args.op c.part_of.result c.part_of.ensures in search rules

slice_bounds-walk_type-count : tie.Need-slice_bounds-walk_type-count
slice_bounds-walk_type-count c = search rules

slice_bounds-walk_type-start : tie.Need-slice_bounds-walk_type-start
slice_bounds-walk_type-start c = search rules

slice_bounds-walk_type-end : tie.Need-slice_bounds-walk_type-end
slice_bounds-walk_type-end c = let h = walk_end c.args.memory.now c.args.op c.part_of.result c.part_of.ensures in search rules

walk_type-requires : tie.Need-walk_type-requires
walk_type-requires c κs = (c.requires.0, (walks_lent c.requires.1.0 _ _ c.part_of.ensures, c.requires.1.1))

shape_of-new : tie.Need-shape_of-new
shape_of-new c = search rules

shape_of-memory : tie.Need-shape_of-memory
shape_of-memory c = search rules

returns : tie.Need-returns
returns c = walked_lent c.requires.0 c.requires.1.0 c.walk_type.ensures.0 c.walk_type.ensures.1 _ c.part_of.ensures c.walk_type.auto.memo

pub walk_spec : {M : Type 1} → statement M
walk_spec =
    tie.close
    (tie.spec
    slice_bounds-run-end
    run-requires
    shape_of-new-then-n-eq0
    returns-then-n-eq0
    part_of-requires
    overflow_mul-from
    overflow_add-end
    offset_bounds-memory-from
    slice_bounds-walk_type-count
    slice_bounds-walk_type-start
    slice_bounds-walk_type-end
    walk_type-requires
    shape_of-new
    shape_of-memory
    returns)
