use Rattle.std.proofs.Common.{◌≡◌, length, take}
use Rattle.layout.specs.Passes.{Sums}
use Rattle.layout.proofs.add_up.Given as goal

abbrev pub invariant-loop-log : goal.invariant-loop-log
invariant-loop-log l = (length l.sums ≡ 4) × Sums (take l.log-index l.logs) l.sums
