use Rattle.walk_answers.proofs.Answers.{float_stays}
use Rattle.walk_answers.proofs.dual_float.Goals as goal

pub returns-then-size-eq-SIZE_ZERO : goal.returns-then-size-eq-SIZE_ZERO
returns-then-size-eq-SIZE_ZERO c = search float_stays
