use Rattle.std.proofs.Common.{◌≡◌}
use Rattle.words.proofs.Copy.{front}
use Rattle.words.proofs.write.Given as goal

abbrev pub invariant-loop-i : goal.invariant-loop-i
invariant-loop-i l = l.dst ≡ front l.fn.entry l.i l.fn.dst
