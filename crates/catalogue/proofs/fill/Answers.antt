use Rattle.std.proofs.Common.{refl, arith, ◌+◌, ◌/◌, ◌≤◌, length}
use Rattle.wellformed.specs.Fresh.{fresh_words}
use Rattle.wellformed.proofs.Tail.{tail_length}
use Rattle.catalogue.proofs.Loading.{enough, filled}
use Rattle.catalogue.proofs.fill.Goals as goal

pub gather-requires-clause-n_in_bounds : goal.gather-requires-clause-n_in_bounds
unfolding fresh_words
gather-requires-clause-n_in_bounds c = enough c.args.tail.now c.headed.new.dst _ (omega (arith, tail_length c.args.tail.now)) c.headed.ensures refl

pub returns : goal.returns
unfolding fresh_words
returns c =
    let room : 94 + length c.args.tail.now / 8 ≤ length c.args.words.now = omega (arith, tail_length c.args.tail.now) in
    filled c.args.tail.now c.headed.new.dst _ (omega arith) c.headed.ensures refl _ _ _ c.gather.ensures c.gather.auto.e room c.clear.ensures
