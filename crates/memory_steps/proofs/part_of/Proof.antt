-- `memory_steps::part_of` meets its contract.
use Rattle.memory_steps.proofs.Steps.{dual_part, glb_part, lub_part}
use borrow.Author.Rules.{rules}
use Rattle.memory_steps.proofs.part_of.Statement.{statement}
use Rattle.memory_steps.proofs.part_of.Tie as tie

enum_told-1 : tie.Need-enum_told-1
enum_told-1 c = search rules

enum_told-in-Glb : tie.Need-enum_told-in-Glb
enum_told-in-Glb c = search rules

enum_told-in-Lub : tie.Need-enum_told-in-Lub
enum_told-in-Lub c = search rules

returns-in-Dual : tie.Need-returns-in-Dual
returns-in-Dual c = dual_part _ c.in-Dual.is

returns-in-Glb : tie.Need-returns-in-Glb
returns-in-Glb c = glb_part _ c.in-Glb.is

returns-in-Lub : tie.Need-returns-in-Lub
returns-in-Lub c = lub_part _ c.in-Lub.is

pub part_of_spec : {M : Type 1} → statement M
part_of_spec = tie.close (tie.spec enum_told-1 enum_told-in-Glb enum_told-in-Lub returns-in-Dual returns-in-Glb returns-in-Lub)
