use Rattle.std.proofs.Common.{not, refl, ap}
use Rattle.wellformed.specs.Fresh.{fresh_words}
use Rattle.catalogue.proofs.Formed.{not_formed, a_store, told}
use Rattle.catalogue.proofs.stores.Goals as goal

pub returns-then-not-verify_tail : goal.returns-then-not-verify_tail
returns-then-not-verify_tail c = not_formed c.args.tail.now _ _ c.verify_tail.ensures (ap not c.if-not-verify_tail.true)

pub distinct-requires-clause-store : goal.distinct-requires-clause-store
unfolding fresh_words
distinct-requires-clause-store c = a_store c.args.tail.now _ _ c.verify_tail.ensures (ap not c.if-not-verify_tail.false) c.headed.new.dst _ c.headed.ensures refl

pub returns : goal.returns
unfolding fresh_words
returns c = told c.args.tail.now _ _ c.verify_tail.ensures (ap not c.if-not-verify_tail.false) c.headed.new.dst _ c.headed.ensures refl _ c.distinct.ensures
