use Rattle.std.proofs.Common.{◌≡◌, drop}
use Rattle.index.specs.Digest.{hash_from}
use Rattle.index.proofs.hash.Given as goal

abbrev pub invariant-loop-i : goal.invariant-loop-i
invariant-loop-i g l = hash_from 0 (g.W.Wanted.entry l.entry) ≡ hash_from l.h (drop l.i (g.W.Wanted.entry l.entry))
