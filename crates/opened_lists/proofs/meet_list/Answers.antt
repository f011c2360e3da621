-- The store is open again, whatever the answer is.
use Rattle.std.proofs.Common.{sym, ◌∙◌, arith, rules}
use Rattle.call.proofs.Ways.{turned}
use Rattle.call.proofs.Refusals.{no_row}
use Rattle.every_call.specs.MeetList.{meet_list_rows, meet_list_of}
use Rattle.store_index.proofs.Index.{marks_long}
use Rattle.store_index.proofs.Store.{first_word, few_words, used_is, used_within}
use Rattle.opened.proofs.Store.{marked_rows}
use Rattle.opened_lists.proofs.Ends.{list_ready, lent_opened, list_end}
use Rattle.opened_lists.proofs.meet_list.Goals as goal

pub bounds-words-0 : goal.bounds-words-0
bounds-words-0 c = first_word _ c.requires.well

pub marks_size-k-requires : goal.marks_size-k-requires
marks_size-k-requires c = few_words _ c.requires.well

pub slice_bounds-list_rows-end-2 : goal.slice_bounds-list_rows-end-2
slice_bounds-list_rows-end-2 c = marks_long c.args.words.now _ _ c.marks_size-k.ensures.0 c.requires.whole.room

pub list_rows-requires : goal.list_rows-requires
list_rows-requires c = marked_rows c.requires _ c.marks_size-k.ensures.0

pub returns-in_err-list_rows : goal.returns-in_err-list_rows
returns-in_err-list_rows c = record {
  words_after = turned (meet_list_rows c.args.types.now) (meet_list_of c.args.types.now) _ _ (used_is _ c.requires.well) _ _ _ c.list_rows.ensures c.in_err-list_rows.was c.from_residual.ensures.1;
  open_store = c.requires;
}

pub merge-r-requires : goal.merge-r-requires
merge-r-requires c =
    let q = no_row _ _ _ c.list_rows.ensures c.in_ok-list_rows.was in
    let k = c.marks_size-k.ensures.0 in
    record { cleared = list_ready _ _ _ _ c.requires q _ k; opened = lent_opened _ _ _ _ c.requires q _ k; right = c.requires.right }

pub finish-m-requires : goal.finish-m-requires
finish-m-requires c =
    let k = c.merge-r.auto.words in
    (omega (arith, first_word _ c.requires.well, k), omega (arith, used_within _ c.requires.well, k))

pub mark_new-requires : goal.mark_new-requires
mark_new-requires c =
    let q = no_row _ _ _ c.list_rows.ensures c.in_ok-list_rows.was in
    let g = c.merge-r in
    let f = c.finish-m in
    let e = list_end _ _ _ _ c.requires q _ c.marks_size-k.ensures.0 _ _ g.ensures.runs g.auto.words f.result _ f.ensures f.auto.words g.new.chains g.auto.chains in
    record { words_value = e.well; unmarked = e.unmarked _ c.in-Ok.is g.ensures.opened_then }

pub build-requires : goal.build-requires
build-requires c =
    let q = no_row _ _ _ c.list_rows.ensures c.in_ok-list_rows.was in
    let g = c.merge-r in
    let f = c.finish-m in
    let e = list_end _ _ _ _ c.requires q _ c.marks_size-k.ensures.0 _ _ g.ensures.runs g.auto.words f.result _ f.ensures f.auto.words g.new.chains g.auto.chains in
    (e.well, e.room)

pub returns-in-Ok : goal.returns-in-Ok
returns-in-Ok c =
    let q = no_row _ _ _ c.list_rows.ensures c.in_ok-list_rows.was in
    let g = c.merge-r in
    let f = c.finish-m in
    let e = list_end _ _ _ _ c.requires q _ c.marks_size-k.ensures.0 _ _ g.ensures.runs g.auto.words f.result _ f.ensures f.auto.words g.new.chains g.auto.chains in
    record {
      words_after = e.reply;
      open_store = record { well = e.well; whole = c.mark_new.ensures; right = e.right _ c.in-Ok.is _ g.ensures.right_then };
    }

pub returns-in-Err-clause-words_after : goal.returns-in-Err-clause-words_after
returns-in-Err-clause-words_after c =
    let q = no_row _ _ _ c.list_rows.ensures c.in_ok-list_rows.was in
    let g = c.merge-r in
    let f = c.finish-m in
    let e = list_end _ _ _ _ c.requires q _ c.marks_size-k.ensures.0 _ _ g.ensures.runs g.auto.words f.result _ f.ensures f.auto.words g.new.chains g.auto.chains in
    e.reply
