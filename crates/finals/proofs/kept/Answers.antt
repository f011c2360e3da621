use Rattle.finals.proofs.Knows.{kept_one}
use Rattle.finals.proofs.kept.Goals as goal

pub returns-then-a-known-clause-kept : goal.returns-then-a-known-clause-kept
returns-then-a-known-clause-kept c = kept_one _ _ _ _ (cc) c.mark.ensures
