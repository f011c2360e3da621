-- what is written and the finals that are left are all the finals, and behind what is written is what was there
use Rattle.std.proofs.Common.{◌≡◌, ◌+◌, ◌-◌, ◌*◌, ◌++◌, take, drop}
use Rattle.meet_fields.proofs.Finals.{finals}
use Rattle.meet_fields.proofs.either_final.Given as goal

abbrev pub invariant-loop-i : goal.invariant-loop-i
invariant-loop-i l =
    (take l.i l.dst ++ finals (take l.used (l.old ++ l.new)) (l.n - l.i) (l.p + 3 * l.i) (l.q + 3 * l.i) ≡ finals (take l.used (l.old ++ l.new)) l.n l.p l.q)
    × (drop l.i l.dst ≡ drop l.i l.initial.dst)
