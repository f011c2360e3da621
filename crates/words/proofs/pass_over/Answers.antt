use Rattle.words.proofs.Passing.{passes, none_more}
use Rattle.words.proofs.pass_over.Goals as goal

pub loop-at-preserved : goal.loop-at-preserved
loop-at-preserved c =
    let i = c.loop-at.invariant in
    let p = passes _ _ _ _ _ c.requires.0 i.onward i.filled i.left c.loop-at-test.true c.if-w-head.false _ c.size_after-n.ensures in
    record { onward = p.0; sized = c.size_after-n.ensures; filled = p.1; left = p.2 }

pub returns : goal.returns
returns c = let i = c.loop-at.invariant in none_more _ _ _ _ _ c.requires.0 i.onward i.filled i.left c.loop-at-test.false
