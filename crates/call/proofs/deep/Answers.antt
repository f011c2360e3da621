-- One more, and the end.
use Rattle.std.proofs.Common.{rules}
use Rattle.call.proofs.Lists.{deep_end, deep_on}
use Rattle.call.proofs.deep.Goals as goal

pub loop-h-preserved : goal.loop-h-preserved
loop-h-preserved c = (search rules, search deep_on)

pub returns : goal.returns
returns c = (search deep_end, search rules)
