-- `walk_rules::final_of` meets its contract.
use Rattle.walk_rules.specs.declared.Walk.TheVariants.{Dual, Glb, Lub}
use Rattle.walk_rules.proofs.Flags.{final_by}
use borrow.Author.Rules.{rules}
use Rattle.walk_rules.proofs.final_of.Statement.{statement}
use Rattle.walk_rules.proofs.final_of.Tie as tie

enum_told-1 : tie.Need-enum_told-1
enum_told-1 c = search rules

overflow_sub-result : tie.Need-overflow_sub-result
overflow_sub-result c = search rules

enum_told-in-Glb : tie.Need-enum_told-in-Glb
enum_told-in-Glb c = search rules

enum_told-in-Lub : tie.Need-enum_told-in-Lub
enum_told-in-Lub c = search rules

returns-in-Dual : tie.Need-returns-in-Dual
returns-in-Dual c = (final_by _ Dual _ c.in-Dual.is, search rules)

returns-in-Glb : tie.Need-returns-in-Glb
returns-in-Glb c = (final_by _ Glb _ c.in-Glb.is, search rules)

returns-in-Lub : tie.Need-returns-in-Lub
returns-in-Lub c = (final_by _ Lub _ c.in-Lub.is, search rules)

pub final_of_spec : {M : Type 1} → statement M
final_of_spec =
    tie.close (tie.spec enum_told-1 overflow_sub-result enum_told-in-Glb enum_told-in-Lub returns-in-Dual returns-in-Glb returns-in-Lub)
