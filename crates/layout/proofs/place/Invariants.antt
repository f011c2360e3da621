use Rattle.std.proofs.Common.{◌≡◌, length}
use Rattle.layout.proofs.Pass.{Placing}
use Rattle.layout.proofs.place.Given as goal

abbrev pub invariant-loop-x : goal.invariant-loop-x
invariant-loop-x l = (length l.next ≡ 4) × Placing l.fn.list l.list l.next l.x-index
