use Rattle.make_ro.proofs.Finals.{made_final}
use Rattle.make_ro.proofs.made_final.Goals as goal

pub returns : goal.returns
returns c = search made_final
