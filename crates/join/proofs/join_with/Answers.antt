use Rattle.join.proofs.Halves.{duals_long, remembered_full}
use Rattle.join.proofs.Steps.{with_covers, with_remembers, with_full, with_ready, with_made}
use Rattle.join.proofs.join_with.Goals as goal

pub dual_of_meet-requires : goal.dual_of_meet-requires
dual_of_meet-requires c = record { ready = with_ready _ _ _ _ _ c.requires.ready _ _ c.walk_type.ensures.walked _ _ c.in_ok-d.was; remembers = with_remembers _ _ _ _ _ c.requires.ready _ _ c.walk_type.ensures.walked _ _ c.in_ok-d.was c.requires.remembers c.walk_type.auto.memo c.walk_type.ensures.remembered; covers = with_covers _ _ _ _ _ c.requires.ready _ _ c.walk_type.ensures.walked _ _ c.in_ok-d.was c.requires.covers }

pub returns-in_err-d-clause-runs : goal.returns-in_err-d-clause-runs
returns-in_err-d-clause-runs c = rw c.from_residual.ensures (with_full _ _ _ _ _ c.requires.ready _ _ c.walk_type.ensures.walked c.in_err-d.was)

pub returns : goal.returns
returns c = record { runs = with_made _ _ _ _ _ c.requires.ready _ _ c.walk_type.ensures.walked _ _ c.in_ok-d.was _ _ c.dual_of_meet.ensures.runs; remembered = c.dual_of_meet.ensures.remembered }
