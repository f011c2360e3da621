-- The first i words are the log sizes of the first i fields, and the others are as they were.
use Rattle.std.proofs.Common.{◌≡◌, length, take}
use Rattle.words.proofs.Copy.{front}
use Rattle.of_offsets.specs.OfOffsets.{log_sizes_on}
use Rattle.of_offsets.proofs.fill_logs.Given as goal

abbrev pub invariant-loop-i : goal.invariant-loop-i
invariant-loop-i l = (length l.output ≡ length l.initial.output) × (l.output ≡ front (log_sizes_on (take l.used l.words) l.s) l.i l.initial.output)
