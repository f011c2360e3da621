-- A call that reads, on an opened store.
use Rattle.std.proofs.Common.{sym, ◌∙◌, rules}
use Rattle.call.proofs.Ways.{begun, read_back, answered_so}
use Rattle.call.proofs.Refusals.{no_row}
use Rattle.every_call.proofs.Cleared.{whole}
use Rattle.asking.proofs.As.{asked_is}
use Rattle.store_index.proofs.Index.{marks_long}
use Rattle.store_index.proofs.Store.{first_word, few_words, used_is}
use Rattle.opened.proofs.Store.{marked_rows, lent_covers}
use Rattle.opened.proofs.ask.Goals as goal

pub bounds-words-0 : goal.bounds-words-0
bounds-words-0 c = first_word _ c.requires.well

pub marks_size-k-requires : goal.marks_size-k-requires
marks_size-k-requires c = few_words _ c.requires.well

pub slice_bounds-rows_of-end : goal.slice_bounds-rows_of-end
slice_bounds-rows_of-end c = marks_long c.args.words.now _ _ c.marks_size-k.ensures.0 c.requires.whole.room

pub rows_of-requires : goal.rows_of-requires
rows_of-requires c = marked_rows c.requires _ c.marks_size-k.ensures.0

pub returns-in_err-rows_of : goal.returns-in_err-rows_of
returns-in_err-rows_of c = record {
  words_value = read_back _ _ _ _ (used_is _ c.requires.well) _ _ _ c.rows_of.ensures c.in_err-rows_of.was c.from_residual.ensures.1 ∙ sym (asked_is c.args.asking c.args.words.now);
  open_store = c.requires;
}

pub tell-requires : goal.tell-requires
tell-requires c = record {
  cleared = whole _ _ _ (begun _ _ (used_is _ c.requires.well)) (no_row _ _ _ c.rows_of.ensures c.in_ok-rows_of.was);
  right = c.requires.right;
  covers = lent_covers c.requires _ c.marks_size-k.ensures.0;
}

pub returns : goal.returns
returns c = record {
  words_value = answered_so _ _ _ _ (used_is _ c.requires.well) (no_row _ _ _ c.rows_of.ensures c.in_ok-rows_of.was) _ c.tell.ensures.result_value ∙ sym (asked_is c.args.asking c.args.words.now);
  open_store = record { well = c.requires.well; whole = c.requires.whole; right = c.tell.ensures.right_2 };
}
