-- One field more, and the end.
use Rattle.std.proofs.Common.{◌≡◌, ◌∙◌, sym, length, take, arith, rules}
use borrow.Author.Tests.{le-leb, lt-leb}
use Rattle.words.specs.Columns.{word}
use Rattle.wellformed.specs.Entry.{kind_at, kind_in}
use Rattle.rows.proofs.Apart.{fields_end, fields_stop, fields_on, stop_one, on_one}
use Rattle.rows.proofs.fields_kind.Goals as goal

pub loop-field-preserved : goal.loop-field-preserved
loop-field-preserved c =
    let test = kind_at (word (take c.args.used c.args.words.now)) (kind_in c.args.low c.args.high) in
    let s = c.in-Some.ensures.steps in
    let four = s.1.1 ∙ c.loop-field.invariant.0 in
    (s.0 ∙ c.loop-field.invariant.0, on_one test _ _ _ _ c.loop-field.invariant.1 _ _ s.1.0 four (omega arith) _ c.all_kinds.ensures c.if-not-all_kinds.false)

pub returns-then-not-all_kinds : goal.returns-then-not-all_kinds
returns-then-not-all_kinds c =
    let test = kind_at (word (take c.args.used c.args.words.now)) (kind_in c.args.low c.args.high) in
    let s = c.in-Some.ensures.steps in
    let four = s.1.1 ∙ c.loop-field.invariant.0 in
    stop_one test _ _ _ _ c.loop-field.invariant.1 _ _ s.1.0 four (omega arith) _ c.all_kinds.ensures c.if-not-all_kinds.true

pub returns : goal.returns
returns c =
    let test = kind_at (word (take c.args.used c.args.words.now)) (kind_in c.args.low c.args.high) in
    let s = c.in-None.ensures.steps in
    fields_end test _ _ _ _ c.loop-field.invariant.1 (omega (arith, s.1.0, c.loop-field.invariant.0))
