use Rattle.walk_answers.proofs.Answers.{float_glb, float_lub}
use Rattle.walk_answers.proofs.float_of.Goals as goal

pub returns-in-Glb : goal.returns-in-Glb
returns-in-Glb c = search float_glb

pub returns-in-Lub : goal.returns-in-Lub
returns-in-Lub c = search float_lub
