-- `walk_rules::dual_end` meets its contract: it answers as the column does.
use Rattle.walk_rules.proofs.Chosen.{dual_bot, dual_top, dual_ctrl, dual_xctrl}
use Rattle.walk_rules.proofs.dual_end.Statement.{statement}
use Rattle.walk_rules.proofs.dual_end.Tie as tie

returns-then-k-eq-BOT : tie.Need-returns-then-k-eq-BOT
returns-then-k-eq-BOT c = search dual_bot

returns-then-k-eq-TOP : tie.Need-returns-then-k-eq-TOP
returns-then-k-eq-TOP c = search dual_top

returns-then-k-eq-CTRL : tie.Need-returns-then-k-eq-CTRL
returns-then-k-eq-CTRL c = search dual_ctrl

returns : tie.Need-returns
returns c = search dual_xctrl

pub dual_end_spec : {M : Type 1} → statement M
dual_end_spec = tie.close (tie.spec returns-then-k-eq-BOT returns-then-k-eq-TOP returns-then-k-eq-CTRL returns)
