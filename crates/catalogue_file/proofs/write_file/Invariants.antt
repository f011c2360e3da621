use Rattle.std.proofs.Common.{◌≡◌, ◌+◌}
use Rattle.catalogue_file.proofs.Written.{begun, sofar}
use Rattle.catalogue_file.proofs.write_file.Given as goal

abbrev pub invariant-loop-k : goal.invariant-loop-k
invariant-loop-k l = l.out ≡ begun (sofar l.label l.words (94 + l.k)) l.fn.out
