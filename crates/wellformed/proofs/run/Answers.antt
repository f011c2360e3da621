-- What a turn knows of the entry at index i of the window, and what is known behind the loop.
use Rattle.std.proofs.Common.{arith, get_or}
use Rattle.words.proofs.Walk.{size_pos}
use Rattle.wellformed.proofs.Windows.{stops, lent_sized, turn_bad, turn_good, goes_end}
use Rattle.wellformed.proofs.run.Goals as goal

pub returns-then-n-window : goal.returns-then-n-window
returns-then-n-window c = stops _ _ _ _ c.requires.window _ _ c.loop-i-test.true c.size-n.ensures _ c.loop-i.invariant.1 c.if-n-window.true

pub entry-requires-clause-e_len : goal.entry-requires-clause-e_len
entry-requires-clause-e_len c = lent_sized _ _ _ _ c.requires.window _ _ c.loop-i-test.true c.size-n.ensures c.if-n-window.false

pub returns-then-not-entry : goal.returns-then-not-entry
returns-then-not-entry c =
    turn_bad _ _ _ _ _ c.requires.window c.requires.used_in_bounds.0 _ _ c.loop-i-test.true c.size-n.ensures c.if-n-window.false c.loop-i.invariant.1 _ c.entry.ensures c.if-not-entry.true

pub loop-i-smaller : goal.loop-i-smaller
loop-i-smaller c = omega (arith, size_pos (get_or c.args.window.now c.loop-i.i 0))

pub loop-i-preserved : goal.loop-i-preserved
loop-i-preserved c = (
  omega arith,
  turn_good _ _ _ _ _ c.requires.window c.requires.used_in_bounds.0 _ _ c.loop-i-test.true c.size-n.ensures c.if-n-window.false c.loop-i.invariant.1 _ c.entry.ensures c.if-not-entry.false _ c.mark.ensures,
)

pub returns : goal.returns
returns c = goes_end _ _ _ _ _ _ c.loop-i.invariant.1 c.loop-i.invariant.0 c.loop-i-test.false
