-- A refused call's output keeps, and any other's is filled.
use Rattle.std.proofs.Common.{sym, ◌∙◌}
use Rattle.struct_calls.specs.Tells.{filling_rows, filled_words}
use Rattle.asking.proofs.As.{filling_is}
use Rattle.asking.proofs.Fills.{turned, some_words, cleared, filled_in}
use Rattle.asking.proofs.fill.Goals as goal

pub returns-then-is_err : goal.returns-then-is_err
returns-then-is_err c = turned (filling_rows c.args.filling c.args.s) (filled_words c.args.filling c.args.s) c.args.words.now c.args.output.now _ (c.requires ∙ filling_is c.args.filling c.args.s _ _) (sym c.is_err.ensures.value ∙ c.if-is_err.true)

pub bounds-words-0 : goal.bounds-words-0
bounds-words-0 c = some_words (filling_rows c.args.filling c.args.s) (filled_words c.args.filling c.args.s) c.args.words.now c.args.output.now _ (c.requires ∙ filling_is c.args.filling c.args.s _ _) (sym c.is_err.ensures.value ∙ c.if-is_err.false)

pub fill-requires : goal.fill-requires
fill-requires c = cleared (filling_rows c.args.filling c.args.s) (filled_words c.args.filling c.args.s) c.args.words.now c.args.output.now _ (c.requires ∙ filling_is c.args.filling c.args.s _ _) (sym c.is_err.ensures.value ∙ c.if-is_err.false)

pub returns : goal.returns
returns c = filled_in (filling_rows c.args.filling c.args.s) (filled_words c.args.filling c.args.s) c.args.words.now c.args.output.now _ (c.requires ∙ filling_is c.args.filling c.args.s _ _) (sym c.is_err.ensures.value ∙ c.if-is_err.false) _ c.fill.ensures
