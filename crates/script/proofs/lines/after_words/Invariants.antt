-- What is left is the end of what there was.
use Rattle.std.proofs.Common.{◌≡◌, ◌≤◌, ◌-◌, length, drop}
use Rattle.script.proofs.lines.after_words.Given as goal

abbrev pub invariant-loop : goal.invariant-loop
invariant-loop l = (length l.left ≤ length l.rest) × (l.left ≡ drop (length l.rest - length l.left) l.rest)
