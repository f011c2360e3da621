use Rattle.walk_answers.proofs.Answers.{int_glb, int_lub}
use Rattle.walk_answers.proofs.int_of.Goals as goal

pub returns-in-Glb : goal.returns-in-Glb
returns-in-Glb c = search int_glb

pub returns-in-Lub : goal.returns-in-Lub
returns-in-Lub c = search int_lub
