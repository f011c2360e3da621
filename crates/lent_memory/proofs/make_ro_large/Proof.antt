-- `lent_memory::make_ro_large` meets its contract.
use Rattle.lent_memory.proofs.Ways.{finals_lent, ro_large}
use borrow.Author.Rules.{rules}
use Rattle.lent_memory.proofs.make_ro_large.Statement.{statement}
use Rattle.lent_memory.proofs.make_ro_large.Tie as tie

overflow_mul-n : tie.Need-overflow_mul-n
overflow_mul-n c = search rules

overflow_mul-n-2 : tie.Need-overflow_mul-n-2
overflow_mul-n-2 c = search rules

offset_bounds-memory-n : tie.Need-offset_bounds-memory-n
offset_bounds-memory-n c = search rules

slice_bounds-run-count : tie.Need-slice_bounds-run-count
slice_bounds-run-count c = search rules

slice_bounds-run-start : tie.Need-slice_bounds-run-start
slice_bounds-run-start c = search rules

slice_bounds-run-end : tie.Need-slice_bounds-run-end
slice_bounds-run-end c = search rules

run-r-requires : tie.Need-run-r-requires
run-r-requires c κs = (c.requires.0, (finals_lent c.requires.1.0, c.requires.1.1))

overflow_mul-n-3 : tie.Need-overflow_mul-n-3
overflow_mul-n-3 c = search rules

overflow_mul-n-4 : tie.Need-overflow_mul-n-4
overflow_mul-n-4 c = search rules

offset_bounds-memory-n-2 : tie.Need-offset_bounds-memory-n-2
offset_bounds-memory-n-2 c = search rules

slice_bounds-noted-count : tie.Need-slice_bounds-noted-count
slice_bounds-noted-count c = search rules

slice_bounds-noted-start : tie.Need-slice_bounds-noted-start
slice_bounds-noted-start c = search rules

slice_bounds-noted-end : tie.Need-slice_bounds-noted-end
slice_bounds-noted-end c = search rules

noted-requires : tie.Need-noted-requires
noted-requires c κs = search rules

shape_of-new : tie.Need-shape_of-new
shape_of-new c = search rules

shape_of-memory : tie.Need-shape_of-memory
shape_of-memory c = search rules

returns : tie.Need-returns
returns c =
    let r = c.run-r in
    let l = c.noted in
    ro_large c.requires.0 c.requires.1.0 r.ensures.0 r.ensures.1 r.auto.known l.ensures.1 l.auto.memo _ l.ensures.0

pub make_ro_large_spec : {M : Type 1} → statement M
make_ro_large_spec =
    tie.close
    (tie.spec
    overflow_mul-n
    overflow_mul-n-2
    offset_bounds-memory-n
    slice_bounds-run-count
    slice_bounds-run-start
    slice_bounds-run-end
    run-r-requires
    overflow_mul-n-3
    overflow_mul-n-4
    offset_bounds-memory-n-2
    slice_bounds-noted-count
    slice_bounds-noted-start
    slice_bounds-noted-end
    noted-requires
    shape_of-new
    shape_of-memory
    returns)
