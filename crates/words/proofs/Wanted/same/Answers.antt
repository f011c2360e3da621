use Rattle.std.proofs.Common.{sym, ◌∙◌, arith}
use Rattle.words.proofs.Alike.{other_length, differ_at, same_at_all}
use Rattle.words.proofs.Wanted.same.Goals as goal

pub returns-then-words-size : goal.returns-then-words-size
returns-then-words-size g c = other_length _ _ (λ e. c.if-words-size.true (e ∙ sym c.size.ensures))

pub returns-then-words-i : goal.returns-then-words-i
returns-then-words-i g c = sym (differ_at _ _ c.loop-i.i (λ e. c.if-words-i.true (e ∙ sym c.word.ensures)))

pub returns : goal.returns
returns g c = sym (same_at_all _ _ (cc) (λ k h. c.loop-i.invariant k (omega arith)))
