-- `asking::bool_at` meets its contract.
use Rattle.asking.proofs.As.{flag_off, flag_on}
use Rattle.asking.proofs.bool_at.Statement.{statement}
use Rattle.asking.proofs.bool_at.Tie as tie

returns-then-value-eq0 : tie.Need-returns-then-value-eq0
returns-then-value-eq0 c = flag_off _ c.if-value-eq0.true

returns : tie.Need-returns
returns c = flag_on _ c.if-value-eq0.false

pub bool_at_spec : {M : Type 1} → statement M
bool_at_spec = tie.close (tie.spec returns-then-value-eq0 returns)
