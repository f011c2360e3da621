use Rattle.std.proofs.Common.{rules}
use Rattle.makers.proofs.Fields.{apart_end, apart_on}
use Rattle.makers.proofs.fields_deep.Goals as goal

pub loop-i-preserved : goal.loop-i-preserved
loop-i-preserved c = (search rules, search apart_on)

pub returns : goal.returns
returns c = (search apart_end, search rules)
