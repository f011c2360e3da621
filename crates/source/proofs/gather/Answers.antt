-- Behind the loop all n words are copied.
use Rattle.std.proofs.Common.{rules}
use Rattle.source.proofs.Both.{gather_all}
use Rattle.source.proofs.gather.Goals as goal

pub returns : goal.returns
returns c = search (rules, gather_all)
