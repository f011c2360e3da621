-- What is left tells what the whole tells.
use Rattle.std.proofs.Common.{◌≡◌, ◌+◌, ◌/◌, eqb, take}
use Rattle.of_structs.specs.OfStructs.{find_alias_of}
use Rattle.of_structs.proofs.Matches.{match_left}
use Rattle.of_structs.proofs.find_alias.Given as goal

abbrev pub invariant-loop-i : goal.invariant-loop-i
invariant-loop-i l =
    let u = take l.used l.words in
    find_alias_of u l.s l.alias ≡ match_left (λ f. eqb (f / 2) l.alias) u l.n (l.s + 4) l.i
