-- The loop's ways.
use Rattle.std.proofs.Common.{refl, rules}
use Rattle.std.proofs.Math.ListN.{length-set}
use Rattle.of_offsets.proofs.Logs.{logs_begin, logs_on, logs_all}
use Rattle.of_offsets.proofs.fill_logs.Goals as goal

pub loop-i-init : goal.loop-i-init
loop-i-init c = (refl, search logs_begin)

pub loop-i-preserved : goal.loop-i-preserved
loop-i-preserved c = (simp length-set (search rules), search logs_on)

pub returns : goal.returns
returns c = search logs_all
