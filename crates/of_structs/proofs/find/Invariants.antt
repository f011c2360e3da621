-- What is left tells what the whole tells.
use Rattle.std.proofs.Common.{◌≡◌, ◌+◌, take}
use Rattle.meet_rules.specs.Names.{same_name}
use Rattle.of_structs.specs.OfStructs.{find_of}
use Rattle.of_structs.proofs.Matches.{match_left}
use Rattle.of_structs.proofs.find.Given as goal

abbrev pub invariant-loop-i : goal.invariant-loop-i
invariant-loop-i l =
    let u = take l.used l.words in
    find_of u l.s l.name ≡ match_left (λ x. same_name u x l.name) u l.n (l.s + 2) l.i
