-- `all` with the test of one handle.
use Rattle.std.proofs.Common.{rules, ◌∙◌}
use Rattle.std.proofs.lemmas.Iterator.{YieldsList-from_slice}
use Rattle.std.proofs.lemmas.Iterator.Search.{all_from_yields_List}
use Rattle.bitset.specs.Bitset.{bit_at}
use Rattle.call.proofs.Lists.{all_is}
use Rattle.call.proofs.all_start.Goals as goal

pub returns : goal.returns
returns c =
    let p = bit_at c.args.bits.now in
    let hs = c.args.hs.now in
    all_from_yields_List p _ _ _ c.all.ensures.ran (YieldsList-from_slice hs cc) (λ x b q k. search rules) ∙ all_is p hs
