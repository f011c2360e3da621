-- the handle falls; of a struct, the fields that are left answer for all
use Rattle.std.proofs.Common.{◌<◌, ◌≤◌, ◌++◌, take}
use Rattle.finals.specs.Known.{Knows}
use Rattle.finals.proofs.Ways.{Left}
use Rattle.finals.proofs.+is_final.Given as goal

abbrev pub decreases-is_final : goal.decreases-is_final
decreases-is_final l = l.a

abbrev pub invariant-loop-i : goal.invariant-loop-i
invariant-loop-i l = (l.n ≤ 255) × (l.a < 1048576) × Left (take l.used (l.old ++ l.new)) l.a l.n l.i × Knows (take l.used (l.old ++ l.new)) l.known
