-- `walk_rules::dual_struct` meets its contract: it answers as the column does.
use Rattle.walk_rules.proofs.Chosen.{dual_struct_top, dual_struct_bot, dual_fields}
use Rattle.walk_rules.proofs.dual_struct.Statement.{statement}
use Rattle.walk_rules.proofs.dual_struct.Tie as tie

returns-then-a-eq-STRUCT_TOP : tie.Need-returns-then-a-eq-STRUCT_TOP
returns-then-a-eq-STRUCT_TOP c = search dual_struct_top

returns-then-a-eq-STRUCT_BOT : tie.Need-returns-then-a-eq-STRUCT_BOT
returns-then-a-eq-STRUCT_BOT c = search dual_struct_bot

returns : tie.Need-returns
returns c = search dual_fields

pub dual_struct_spec : {M : Type 1} → statement M
dual_struct_spec = tie.close (tie.spec returns-then-a-eq-STRUCT_TOP returns-then-a-eq-STRUCT_BOT returns)
