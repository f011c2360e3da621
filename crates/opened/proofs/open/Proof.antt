-- `opened::open` meets its contract.
use mathlib.Core.Bool.{not}
use mathlib.Core.Path.{ap}
use mathlib.Core.List.{[]}
use Rattle.store_index.proofs.Store.{few_words}
use Rattle.opened.proofs.Opens.{no_store, too_short, good_store, enough, opened_store}
use borrow.Author.Rules.{rules}
use Rattle.opened.proofs.open.Statement.{statement}
use Rattle.opened.proofs.open.Tie as tie

well_formed-requires : tie.Need-well_formed-requires
well_formed-requires c κs = search rules

returns-then-not-well_formed : tie.Need-returns-then-not-well_formed
returns-then-not-well_formed c = no_store _ _ _ _ c.well_formed-2.ensures (ap not c.if-not-well_formed.true)

marks_size-requires : tie.Need-marks_size-requires
marks_size-requires c κs = few_words _ (good_store _ [] [] _ c.well_formed-2.ensures (ap not c.if-not-well_formed.false))

overflow_mul-n : tie.Need-overflow_mul-n
overflow_mul-n c = search rules

overflow_add-marks_size : tie.Need-overflow_add-marks_size
overflow_add-marks_size c = search rules

returns-then-index-marks_size : tie.Need-returns-then-index-marks_size
returns-then-index-marks_size c = too_short _ _ (good_store _ [] [] _ c.well_formed-2.ensures (ap not c.if-not-well_formed.false)) _ c.marks_size.ensures.0 _ c.if-index-marks_size.true

build-requires : tie.Need-build-requires
build-requires c κs =
    let ok = good_store c.args.words.now [] [] _ c.well_formed-2.ensures (ap not c.if-not-well_formed.false) in
    (ok, enough c.args.words.now c.args.index.now ok _ c.marks_size.ensures.0 c.if-index-marks_size.false)

shape_of-index : tie.Need-shape_of-index
shape_of-index c = search rules

shape_of-memory : tie.Need-shape_of-memory
shape_of-memory c = search rules

returns : tie.Need-returns
returns c =
    let ws = c.args.words.now in
    let ok = good_store ws [] [] _ c.well_formed-2.ensures (ap not c.if-not-well_formed.false) in
    let k = c.marks_size.ensures.0 in
    opened_store ws c.args.index.now ok _ k (enough ws c.args.index.now ok _ k c.if-index-marks_size.false) _ _ _ c.build.ensures

pub open_spec : {M : Type 1} → statement M
open_spec =
    tie.close
    (tie.spec
    well_formed-requires
    returns-then-not-well_formed
    marks_size-requires
    overflow_mul-n
    overflow_add-marks_size
    returns-then-index-marks_size
    build-requires
    shape_of-index
    shape_of-memory
    returns)
