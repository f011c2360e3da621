-- `walk_rules::nil_of` meets its contract.
use Rattle.walk_rules.proofs.Flags.{nil_dual}
use borrow.Author.Rules.{rules}
use Rattle.walk_rules.proofs.nil_of.Statement.{statement}
use Rattle.walk_rules.proofs.nil_of.Tie as tie

enum_told-1 : tie.Need-enum_told-1
enum_told-1 c = search rules

overflow_sub-result : tie.Need-overflow_sub-result
overflow_sub-result c = search rules

enum_told-in-Glb : tie.Need-enum_told-in-Glb
enum_told-in-Glb c = search rules

enum_told-in-Lub : tie.Need-enum_told-in-Lub
enum_told-in-Lub c = search rules

returns-in-Dual : tie.Need-returns-in-Dual
returns-in-Dual c = search nil_dual

returns-in-Glb : tie.Need-returns-in-Glb
returns-in-Glb c = search rules

returns-in-Lub : tie.Need-returns-in-Lub
returns-in-Lub c = search rules

pub nil_of_spec : {M : Type 1} → statement M
nil_of_spec =
    tie.close (tie.spec enum_told-1 overflow_sub-result enum_told-in-Glb enum_told-in-Lub returns-in-Dual returns-in-Glb returns-in-Lub)
