-- what is written and the types that are left are all the types, and behind what is written is what was there
use Rattle.std.proofs.Common.{◌≡◌, ◌++◌, take, drop}
use Rattle.structs.proofs.widened.Given as goal

abbrev pub invariant-loop-i : goal.invariant-loop-i
invariant-loop-i l = (take l.i l.dst ++ drop l.i l.types ≡ l.types) × (drop l.i l.dst ≡ drop l.i l.initial.dst)
