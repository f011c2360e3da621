-- The call's rows before row 11, and row 11.
use Rattle.std.proofs.Common.{take}
use Rattle.call.proofs.Refusals.{first_rows, no_row}
use Rattle.struct_calls.specs.Tells.{filling_rows, filled_words}
use Rattle.struct_calls.proofs.Needs.{fill_11, fill_0}
use Rattle.struct_calls.proofs.fill_rows.Goals as goal

pub returns-in_err-filling_rows : goal.returns-in_err-filling_rows
returns-in_err-filling_rows c = first_rows _ _ _ _ _ c.filling_rows.ensures c.in_err-filling_rows.was c.from_residual.ensures.1

pub returns-then-n-filled : goal.returns-then-n-filled
returns-then-n-filled c =
    let z = no_row _ _ _ c.filling_rows.ensures c.in_ok-filling_rows.was in
    fill_11 (filling_rows c.args.filling c.args.s) (filled_words c.args.filling c.args.s) _ (take c.args.used c.args.words.now) z _ c.filled.ensures c.if-n-filled.true

pub returns : goal.returns
returns c =
    let z = no_row _ _ _ c.filling_rows.ensures c.in_ok-filling_rows.was in
    fill_0 (filling_rows c.args.filling c.args.s) (filled_words c.args.filling c.args.s) _ (take c.args.used c.args.words.now) z _ c.filled.ensures c.if-n-filled.false
