-- What is left is the beginning of the line, which a space shortens.
use Rattle.std.proofs.Common.{◌≡◌, ◌≤◌, length, take}
use Rattle.script.proofs.lines.cut.Given as goal

abbrev pub invariant-loop-said : goal.invariant-loop-said
invariant-loop-said l = (length l.said ≤ length l.line) × (l.said ≡ take (length l.said) l.line)

abbrev pub decreases-loop-said : goal.decreases-loop-said
decreases-loop-said l = length l.said
