use Rattle.std.proofs.Common.{◌<◌, length}
use Rattle.memo.proofs.place.Given as goal

abbrev pub invariant-loop : goal.invariant-loop
invariant-loop l = l.i < length l.memo
