-- what is left to compare says what the whole says
use Rattle.std.proofs.Common.{◌≡◌, ◌+◌, ◌-◌, ◌*◌, ◌++◌, take}
use Rattle.words.specs.Columns.{every}
use Rattle.meet_rules.specs.Names.{same_fields}
use Rattle.same_names.proofs.Alike.{Low}
use Rattle.same_names.proofs.same_fields.Given as goal

abbrev pub invariant-loop-i : goal.invariant-loop-i
invariant-loop-i l =
    Low (every 3 (l.n - l.i) (l.p + 3 * l.i) (take l.used (l.old ++ l.new)))
    × Low (every 3 (l.n - l.i) (l.q + 3 * l.i) (take l.used (l.old ++ l.new)))
    × (same_fields (take l.used (l.old ++ l.new)) l.n l.p l.q ≡ same_fields (take l.used (l.old ++ l.new)) (l.n - l.i) (l.p + 3 * l.i) (l.q + 3 * l.i))
