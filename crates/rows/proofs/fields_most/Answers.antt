-- One field more, and the end.
use Rattle.std.proofs.Common.{◌≡◌, ◌∙◌, sym, length, take, arith, rules}
use borrow.Author.Tests.{le-leb, lt-leb}
use Rattle.rows.specs.Tests.{at_most}
use Rattle.rows.proofs.Apart.{fields_end, fields_stop, fields_on, stop_one, on_one}
use Rattle.rows.proofs.fields_most.Goals as goal

pub loop-field-preserved : goal.loop-field-preserved
loop-field-preserved c =
    let test = at_most c.args.most in
    let s = c.in-Some.ensures.steps in
    let four = s.1.1 ∙ c.loop-field.invariant.0 in
    (s.0 ∙ c.loop-field.invariant.0, fields_on test _ _ _ _ c.loop-field.invariant.1 _ _ s.1.0 four (omega arith) (le-leb _ _ c.if-field-p.false))

pub returns-then-field-p : goal.returns-then-field-p
returns-then-field-p c =
    let test = at_most c.args.most in
    let s = c.in-Some.ensures.steps in
    let four = s.1.1 ∙ c.loop-field.invariant.0 in
    fields_stop test _ _ _ _ c.loop-field.invariant.1 _ _ s.1.0 four (omega arith) (lt-leb _ _ c.if-field-p.true)

pub returns : goal.returns
returns c =
    let test = at_most c.args.most in
    let s = c.in-None.ensures.steps in
    fields_end test _ _ _ _ c.loop-field.invariant.1 (omega (arith, s.1.0, c.loop-field.invariant.0))
