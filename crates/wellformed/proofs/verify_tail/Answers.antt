-- The store stands in two sources: the fresh words, and the bytes.
use Rattle.std.proofs.Common.{refl, arith}
use Rattle.source.proofs.Both.{length_stored}
use Rattle.wellformed.specs.Fresh.{fresh_words}
use Rattle.wellformed.proofs.Tail.{tail_length, no_store, tail_right}
use Rattle.wellformed.proofs.verify_tail.Goals as goal

pub returns-then-k-gt-MOST_LATER : goal.returns-then-k-gt-MOST_LATER
returns-then-k-gt-MOST_LATER c = search no_store

pub entries_in-requires-clause-le_used : goal.entries_in-requires-clause-le_used
entries_in-requires-clause-le_used c =
    let n = length_stored c.headed.new.dst c.args.tail.now in
    (omega arith, omega (arith, n, c.headed.auto.dst), omega (arith, n, c.headed.auto.dst, tail_length c.args.tail.now))

pub returns : goal.returns
unfolding fresh_words
returns c =
    tail_right c.args.tail.now c.if-k-gt-MOST_LATER.false c.headed.new.dst _ c.headed.ensures refl _ _ c.entries_in.ensures
