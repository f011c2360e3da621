-- What stands at the front and the fields that are left are the whole, and behind is what was there.
use Rattle.std.proofs.Common.{◌≡◌, ◌*◌, ◌++◌, length, take, drop}
use Rattle.of_structs.specs.OfStructs.{field_list}
use Rattle.of_structs.proofs.Lent.{lent_left}
use Rattle.of_structs.proofs.fill_fields.Given as goal

abbrev pub invariant-loop-i : goal.invariant-loop-i
invariant-loop-i l =
    let u = take l.used l.words in
    (length l.output ≡ length l.initial.output)
    × (take (4 * l.i) l.output ++ lent_left u l.s l.n l.i ≡ field_list u l.s)
    × (drop (4 * l.i) l.output ≡ drop (4 * l.i) l.initial.output)
