-- `opened::build` meets its contract.
use Rattle.store_index.proofs.Index.{marks_long}
use Rattle.store_index.proofs.Store.{few_words}
use Rattle.opened.proofs.Opens.{begin_index, built_store}
use borrow.Author.Rules.{rules}
use Rattle.opened.proofs.build.Statement.{statement}
use Rattle.opened.proofs.build.Tie as tie

marks_size-k-requires : tie.Need-marks_size-k-requires
marks_size-k-requires c κs = few_words _ c.requires.0

slice_bounds-clear-end : tie.Need-slice_bounds-clear-end
slice_bounds-clear-end c = search rules

slice_bounds-clear-end-2 : tie.Need-slice_bounds-clear-end-2
slice_bounds-clear-end-2 c = marks_long c.args.words.now c.args.index.now _ c.marks_size-k.ensures.0 c.requires.1

clear-requires : tie.Need-clear-requires
clear-requires c κs = search rules

offset_bounds-index-k : tie.Need-offset_bounds-index-k
offset_bounds-index-k c = search rules

slice_bounds-blank-count : tie.Need-slice_bounds-blank-count
slice_bounds-blank-count c = search rules

slice_bounds-blank-start : tie.Need-slice_bounds-blank-start
slice_bounds-blank-start c = search rules

slice_bounds-blank-end : tie.Need-slice_bounds-blank-end
slice_bounds-blank-end c = search rules

blank-requires : tie.Need-blank-requires
blank-requires c κs = search rules

extend-requires : tie.Need-extend-requires
extend-requires c κs =
    let bits = c.clear in
    let chains = c.blank in
    (c.requires.0, begin_index c.args.words.now c.args.index.now c.requires.0 _ c.marks_size-k.ensures.0 c.requires.1 bits.new.bits bits.auto.bits bits.ensures chains.new.index chains.auto.index chains.ensures)

clear-requires-2 : tie.Need-clear-requires-2
clear-requires-2 c κs = search rules

shape_of-index : tie.Need-shape_of-index
shape_of-index c = search rules

shape_of-memory : tie.Need-shape_of-memory
shape_of-memory c = search rules

returns : tie.Need-returns
returns c = built_store _ _ c.args.memory.now _ c.requires.0 c.extend.ensures c.clear-2.ensures

pub build_spec : {M : Type 1} → statement M
build_spec =
    tie.close
    (tie.spec
    marks_size-k-requires
    slice_bounds-clear-end
    slice_bounds-clear-end-2
    clear-requires
    offset_bounds-index-k
    slice_bounds-blank-count
    slice_bounds-blank-start
    slice_bounds-blank-end
    blank-requires
    extend-requires
    clear-requires-2
    shape_of-index
    shape_of-memory
    returns)
