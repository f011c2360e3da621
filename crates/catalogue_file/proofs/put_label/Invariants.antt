use Rattle.std.proofs.Common.{◌≡◌}
use Rattle.words.proofs.Copy.{front}
use Rattle.catalogue_file.proofs.put_label.Given as goal

abbrev pub invariant-loop-i : goal.invariant-loop-i
invariant-loop-i l = l.out ≡ front l.fn.label l.i l.fn.out
