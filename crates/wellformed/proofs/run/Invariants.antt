-- Up to index i the entries are right.
use Rattle.std.proofs.Common.{◌+◌, ◌-◌, ◌≤◌, length}
use Rattle.source.specs.Source.{stored}
use Rattle.wellformed.specs.Scan.{Passed}
use Rattle.wellformed.proofs.run.Given as goal

abbrev pub invariant-loop-i : goal.invariant-loop-i
invariant-loop-i l = (l.i ≤ length l.window) × (Passed (stored l.words l.tail) l.used l.bits (l.base + l.i))

abbrev pub decreases-loop-i : goal.decreases-loop-i
decreases-loop-i l = length l.window - l.i
