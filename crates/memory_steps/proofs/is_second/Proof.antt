-- `memory_steps::is_second` meets its contract.
use Rattle.memory_steps.proofs.Steps.{second_at, second_full}
use borrow.Author.Rules.{rules}
use Rattle.memory_steps.proofs.is_second.Statement.{statement}
use Rattle.memory_steps.proofs.is_second.Tie as tie

enum_known-m : tie.Need-enum_known-m
enum_known-m c = search rules

enum_told-1 : tie.Need-enum_told-1
enum_told-1 c = search rules

returns-in-Some : tie.Need-returns-in-Some
returns-in-Some c = second_at _ _ _ _ c.in-Some.is

returns-in-None : tie.Need-returns-in-None
returns-in-None c = second_full _ _ c.in-None.is

pub is_second_spec : {M : Type 1} → statement M
is_second_spec = tie.close (tie.spec enum_known-m enum_told-1 returns-in-Some returns-in-None)
