-- What is left to look at tells as much as all fields.
use Rattle.std.proofs.Common.{◌≡◌, ◌+◌, ◌-◌, ◌*◌, take}
use Rattle.words.specs.Columns.{every, field_types_on}
use Rattle.wellformed.specs.Entry.{all}
use Rattle.of_types.specs.OfTypes.{has_log_size}
use Rattle.of_offsets.proofs.unsized_field.Given as goal

abbrev pub invariant-loop-i : goal.invariant-loop-i
invariant-loop-i l =
    let u = take l.used l.words in
    all (has_log_size u) (field_types_on u l.s) ≡ all (has_log_size u) (every 3 (l.n - l.i) (l.s + 3 + 3 * l.i) u)
