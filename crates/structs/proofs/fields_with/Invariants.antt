-- what is written and the fields that are left are all the fields, and behind what is written is what was there
use Rattle.std.proofs.Common.{◌≡◌, ◌*◌, ◌++◌, take, drop}
use Rattle.structs.specs.Remade.{fields_with}
use Rattle.structs.proofs.Filled.{fields_left}
use Rattle.structs.proofs.fields_with.Given as goal

abbrev pub invariant-loop-i : goal.invariant-loop-i
invariant-loop-i l =
    (take (4 * l.i) l.dst ++ fields_left (take l.used (l.old ++ l.new)) l.p l.types l.finals l.i ≡ fields_with (take l.used (l.old ++ l.new)) l.p l.types l.finals)
    × (drop (4 * l.i) l.dst ≡ drop (4 * l.i) l.initial.dst)
