use Rattle.std.proofs.Common.{not, ap, arith}
use Rattle.catalogue.proofs.Loading.{read, loaded}
use Rattle.catalogue.proofs.load.Goals as goal

pub returns : goal.returns
returns c =
    let r = read c.args.file.now c.args.words.now _ _ _ (omega arith) (omega arith) (omega arith) c.eight-start.ensures c.eight-count.ensures c.trailer_fits.ensures in
    loaded _ _ _ _ _ r (ap not c.if-not-trailer_fits.false) _ c.stores_for.ensures (ap not c.if-not-stores_for.false) c.if-start.false c.if-words-count.false _ c.fill.ensures
