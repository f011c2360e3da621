-- A call that appends, on an opened store: the index and the memory are right again.
use Rattle.std.proofs.Common.{sym, ◌∙◌, rules}
use Rattle.call.proofs.Ways.{turned}
use Rattle.call.proofs.Refusals.{no_row}
use Rattle.making.specs.Making.{appended}
use Rattle.making.proofs.As.{appended_is}
use Rattle.store_index.proofs.Index.{marks_long}
use Rattle.store_index.proofs.Store.{first_word, few_words, used_is}
use Rattle.opened.proofs.Store.{marked_rows, lent_covers, after_well, after_stale}
use Rattle.opened.proofs.append.Goals as goal

pub bounds-words-0 : goal.bounds-words-0
bounds-words-0 c = first_word _ c.requires.well

pub marks_size-k-requires : goal.marks_size-k-requires
marks_size-k-requires c = few_words _ c.requires.well

pub slice_bounds-rows_of-end-2 : goal.slice_bounds-rows_of-end-2
slice_bounds-rows_of-end-2 c = marks_long c.args.words.now _ _ c.marks_size-k.ensures.0 c.requires.whole.room

pub rows_of-requires : goal.rows_of-requires
rows_of-requires c = marked_rows c.requires _ c.marks_size-k.ensures.0

pub returns-in_err-rows_of : goal.returns-in_err-rows_of
returns-in_err-rows_of c = record {
  words_after = turned _ _ _ _ (used_is _ c.requires.well) _ _ _ c.rows_of.ensures c.in_err-rows_of.was c.from_residual.ensures.1 ∙ sym (appended_is c.args.making c.args.list.now c.args.text.now c.args.words.now);
  open_store = c.requires;
}

pub append-r-requires : goal.append-r-requires
append-r-requires c = record {
  used_value = used_is _ c.requires.well;
  words_value = no_row _ _ _ c.rows_of.ensures c.in_ok-rows_of.was;
  right = c.requires.right;
  covers = lent_covers c.requires _ c.marks_size-k.ensures.0;
}

pub extend-requires : goal.extend-requires
extend-requires c =
    let a = c.append-r in
    let k = appended c.args.making c.args.list.now c.args.text.now in
    record {
      words_value = after_well _ _ k a.ensures.text_value c.requires.well _ a.ensures.words_after;
      stale = after_stale _ _ k a.ensures.text_value c.requires.well _ a.ensures.words_after _ a.auto.words c.requires.whole;
    }

pub returns : goal.returns
returns c =
    let a = c.append-r in
    let k = appended c.args.making c.args.list.now c.args.text.now in
    record {
      words_after = a.ensures.words_after;
      open_store = record { well = after_well _ _ k a.ensures.text_value c.requires.well _ a.ensures.words_after; whole = c.extend.ensures; right = a.ensures.right_2 };
    }
