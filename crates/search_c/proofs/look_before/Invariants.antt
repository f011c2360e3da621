-- The answer is the answer on the entries from `at` on, which fill the words up to `to`.
use Rattle.std.proofs.Common.{◌≡◌, true, ◌-◌}
use Rattle.std.proofs.Math.Seq.{slice}
use Rattle.words.specs.Words.{fills}
use Rattle.words.specs.Table.{rows, first_of}
use Rattle.search_c.proofs.look_before.Given as goal

abbrev pub invariant-loop-at : goal.invariant-loop-at
invariant-loop-at g l = (fills 0 (slice l.at l.to l.words) ≡ true) × (first_of (rows l.from 0 (slice l.from l.to l.words)) (g.W.Wanted.entry l.entry) ≡ first_of (rows l.at 0 (slice l.at l.to l.words)) (g.W.Wanted.entry l.entry))

abbrev pub decreases-loop-at : goal.decreases-loop-at
decreases-loop-at g l = l.to - l.at
