use Rattle.names.specs.Name.{wrapped}
use Rattle.names.proofs.Number.{Last}
use Rattle.names.proofs.Name.last_eight.Given as goal

abbrev pub invariant-loop-k : goal.invariant-loop-k
invariant-loop-k l = Last (wrapped l.self.wrap l.self.text.now) l.at l.k l.w
