-- `all` with the test of one kind.
use Rattle.std.proofs.Common.{rules, tests, ◌∙◌, ◌++◌, take}
use Rattle.std.proofs.lemmas.Iterator.{YieldsList-from_slice}
use Rattle.std.proofs.lemmas.Iterator.Search.{all_from_yields_List}
use Rattle.words.specs.Columns.{word}
use Rattle.wellformed.specs.Entry.{kind_in, kind_at}
use Rattle.call.proofs.Lists.{all_is}
use Rattle.call.proofs.all_kinds.Goals as goal

pub returns : goal.returns
returns c =
    let p = kind_at (word (take c.args.used (c.args.old.now ++ c.args.new.now))) (kind_in c.args.low c.args.high) in
    let hs = c.args.hs.now in
    all_from_yields_List p _ _ _ c.all.ensures.ran (YieldsList-from_slice hs cc) (λ x b q k. search (rules, tests)) ∙ all_is p hs
