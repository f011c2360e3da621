-- The first i words are copied, and the others are as they were.
use Rattle.std.proofs.Common.{◌≡◌, take, drop}
use Rattle.words.proofs.Copy.{front}
use Rattle.source.specs.Source.{stored}
use Rattle.source.proofs.gather.Given as goal

abbrev pub invariant-loop-i : goal.invariant-loop-i
invariant-loop-i l = l.e ≡ front (take l.n (drop l.at (stored l.words l.tail))) l.i l.initial.e
