use Rattle.std.proofs.Common.{ap, not, arith}
use Rattle.search_c.proofs.Told.{to_open}
use Rattle.search_c.proofs.bench_open.Goals as goal

pub bounds-words-0 : goal.bounds-words-0
bounds-words-0 c = omega (arith, to_open _ _ c.well_formed-2.ensures (ap not c.if-not-well_formed.false))

pub open-requires : goal.open-requires
open-requires c = let k = to_open _ _ c.well_formed-2.ensures (ap not c.if-not-well_formed.false) in (k.1, k.2, k.3)
