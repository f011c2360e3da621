-- A call that appends, from row 1 on.
use Rattle.std.proofs.Common.{◌≡◌, Ok, sym, ◌∙◌, rules}
use Rattle.call.proofs.Ways.{begun, no_store, turned}
use Rattle.call.proofs.Refusals.{no_row}
use Rattle.lent_memory.proofs.Laws.{right_none}
use Rattle.making.proofs.As.{appended_is}
use Rattle.plain.proofs.append_in.Goals as goal

pub returns-in_err-used : goal.returns-in_err-used
returns-in_err-used c = no_store _ _ _ _ _ _ c.begin.ensures.is c.in_err-used.was c.from_residual.ensures.1 ∙ sym (appended_is c.args.making c.args.list.now c.args.text.now c.args.words.now)

pub rows_of-requires : goal.rows_of-requires
rows_of-requires c = c.begin.ensures.ready _ c.in_ok-used.was

pub returns-in_err-rows_of : goal.returns-in_err-rows_of
returns-in_err-rows_of c =
    let is = sym c.in_ok-used.was ∙ c.begin.ensures.is in
    turned _ _ _ _ is _ _ _ c.rows_of.ensures c.in_err-rows_of.was c.from_residual-in_err-rows_of.ensures.1 ∙ sym (appended_is c.args.making c.args.list.now c.args.text.now c.args.words.now)

pub append-requires : goal.append-requires
append-requires c =
    let is = sym c.in_ok-used.was ∙ c.begin.ensures.is in
    record {
      used_value = is;
      words_value = no_row _ _ _ c.rows_of.ensures c.in_ok-rows_of.was;
      right = right_none _;
      covers = (begun _ _ is).covers;
    }

pub returns : goal.returns
returns c = c.append.ensures.words_after
