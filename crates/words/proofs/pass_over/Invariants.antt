-- The rows that are left are those that are left from `at` on, where entries fill the words up to `to`.
use Rattle.std.proofs.Common.{◌≡◌, true, ℕ, ◌+◌, ◌-◌, ◌≤◌}
use Rattle.std.proofs.Math.Seq.{slice}
use Rattle.words.specs.Words.{size_of, fills}
use Rattle.words.specs.Table.{rows}
use Rattle.words.specs.Ran.{from_head}
use Rattle.words.proofs.pass_over.Given as goal

abbrev pub invariant-loop-at : goal.invariant-loop-at
invariant-loop-at l = record {
  onward : l.from ≤ l.at;
  sized : l.n ≡ size_of l.last;
  filled : fills 0 (slice l.at l.to l.words) ≡ true;
  left : (base : ℕ) → from_head l.head (rows (base + l.from) 0 (slice l.from l.to l.words)) ≡ from_head l.head (rows (base + l.at) 0 (slice l.at l.to l.words));
}

abbrev pub decreases-loop-at : goal.decreases-loop-at
decreases-loop-at l = l.to - l.at
