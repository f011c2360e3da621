-- what stands at the front and the fields that are left are the whole, and behind is what was there
use Rattle.std.proofs.Common.{◌≡◌, ◌*◌, ◌/◌, ◌++◌, length, take, drop}
use Rattle.makers.specs.Entries.{field_words}
use Rattle.makers.proofs.Fields.{fields_left}
use Rattle.makers.proofs.field_words.Given as goal

abbrev pub invariant-loop-i : goal.invariant-loop-i
invariant-loop-i l =
    (take (3 * l.i) l.dst ++ fields_left (length l.fields / 4) l.fields l.i ≡ field_words (length l.fields / 4) 0 l.fields)
    × (drop (3 * l.i) l.dst ≡ drop (3 * l.i) l.initial.dst)
