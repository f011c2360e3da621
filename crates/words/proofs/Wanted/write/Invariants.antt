use Rattle.std.proofs.Common.{◌≡◌}
use Rattle.words.proofs.Copy.{front}
use Rattle.words.proofs.Wanted.write.Given as goal

abbrev pub invariant-loop-i : goal.invariant-loop-i
invariant-loop-i g l = l.dst ≡ front (g.Self.Wanted.entry l.self) l.i l.fn.dst
