-- `walk_rules::end_of` meets its contract: it answers as the walk's column does.
use Rattle.walk_rules.proofs.Chosen.{end_dual, glb_ctrl, glb_other, lub_ctrl, lub_other}
use borrow.Author.Rules.{rules}
use Rattle.walk_rules.proofs.end_of.Statement.{statement}
use Rattle.walk_rules.proofs.end_of.Tie as tie

enum_told-1 : tie.Need-enum_told-1
enum_told-1 c = search rules

dual_end-requires : tie.Need-dual_end-requires
dual_end-requires c κs = search rules

enum_told-in-Glb : tie.Need-enum_told-in-Glb
enum_told-in-Glb c = search rules

returns-then-k-eq-CTRL : tie.Need-returns-then-k-eq-CTRL
returns-then-k-eq-CTRL c = search glb_ctrl

enum_told-in-Lub : tie.Need-enum_told-in-Lub
enum_told-in-Lub c = search rules

returns-then-k-eq-CTRL-2 : tie.Need-returns-then-k-eq-CTRL-2
returns-then-k-eq-CTRL-2 c = search lub_ctrl

returns-in-Dual : tie.Need-returns-in-Dual
returns-in-Dual c = search end_dual

returns-else-k-eq-CTRL : tie.Need-returns-else-k-eq-CTRL
returns-else-k-eq-CTRL c = search glb_other

returns-else-k-eq-CTRL-2 : tie.Need-returns-else-k-eq-CTRL-2
returns-else-k-eq-CTRL-2 c = search lub_other

pub end_of_spec : {M : Type 1} → statement M
end_of_spec =
    tie.close
    (tie.spec
    enum_told-1
    dual_end-requires
    enum_told-in-Glb
    returns-then-k-eq-CTRL
    enum_told-in-Lub
    returns-then-k-eq-CTRL-2
    returns-in-Dual
    returns-else-k-eq-CTRL
    returns-else-k-eq-CTRL-2)
