-- `walk_rules::struct_form` meets its contract.
use Rattle.walk_rules.proofs.Chosen.{struct_dual}
use borrow.Author.Rules.{rules}
use Rattle.walk_rules.proofs.struct_form.Statement.{statement}
use Rattle.walk_rules.proofs.struct_form.Tie as tie

enum_told-1 : tie.Need-enum_told-1
enum_told-1 c = search rules

dual_struct-requires : tie.Need-dual_struct-requires
dual_struct-requires c κs = search rules

enum_told-in-Glb : tie.Need-enum_told-in-Glb
enum_told-in-Glb c = search rules

enum_told-in-Lub : tie.Need-enum_told-in-Lub
enum_told-in-Lub c = search rules

returns-in-Dual : tie.Need-returns-in-Dual
returns-in-Dual c = search struct_dual

returns-in-Glb : tie.Need-returns-in-Glb
returns-in-Glb c = search rules

returns-in-Lub : tie.Need-returns-in-Lub
returns-in-Lub c = search rules

pub struct_form_spec : {M : Type 1} → statement M
struct_form_spec =
    tie.close
    (tie.spec enum_told-1 dual_struct-requires enum_told-in-Glb enum_told-in-Lub returns-in-Dual returns-in-Glb returns-in-Lub)
