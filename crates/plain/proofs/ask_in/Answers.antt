-- A call that reads, from row 1 on.
use Rattle.std.proofs.Common.{◌≡◌, Ok, sym, ◌∙◌, rules}
use Rattle.call.proofs.Ways.{begun, unread, read_back, answered_so}
use Rattle.call.proofs.Refusals.{no_row}
use Rattle.lent_memory.proofs.Laws.{right_none}
use Rattle.every_call.proofs.Cleared.{whole}
use Rattle.asking.proofs.As.{asked_is}
use Rattle.plain.proofs.ask_in.Goals as goal

pub returns-in_err-used : goal.returns-in_err-used
returns-in_err-used c = unread _ _ _ _ _ _ c.begin.ensures.is c.in_err-used.was c.from_residual.ensures.1 ∙ sym (asked_is c.args.asking c.args.words.now)

pub rows_of-requires : goal.rows_of-requires
rows_of-requires c = c.begin.ensures.ready _ c.in_ok-used.was

pub returns-in_err-rows_of : goal.returns-in_err-rows_of
returns-in_err-rows_of c =
    let is = sym c.in_ok-used.was ∙ c.begin.ensures.is in
    read_back _ _ _ _ is _ _ _ c.rows_of.ensures c.in_err-rows_of.was c.from_residual-in_err-rows_of.ensures.1 ∙ sym (asked_is c.args.asking c.args.words.now)

pub tell-requires : goal.tell-requires
tell-requires c =
    let b = begun _ _ (sym c.in_ok-used.was ∙ c.begin.ensures.is) in
    record {
      cleared = whole _ _ _ b (no_row _ _ _ c.rows_of.ensures c.in_ok-rows_of.was);
      right = right_none _;
      covers = b.covers;
    }

pub returns : goal.returns
returns c =
    let is = sym c.in_ok-used.was ∙ c.begin.ensures.is in
    answered_so _ _ _ _ is (no_row _ _ _ c.rows_of.ensures c.in_ok-rows_of.was) _ c.tell.ensures.result_value ∙ sym (asked_is c.args.asking c.args.words.now)
