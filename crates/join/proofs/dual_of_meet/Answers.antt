use Rattle.join.proofs.Halves.{lent_meets, remembered_full}
use Rattle.join.proofs.Steps.{meet_covers, meet_full, meet_ready, meet_long, meet_remembers, meet_remembered, meet_dualled}
use Rattle.join.proofs.dual_of_meet.Goals as goal

pub walk_type-requires : goal.walk_type-requires
walk_type-requires c = record { ready_one = meet_ready _ _ _ _ _ c.requires.ready _ _ c.meet_type.ensures.met _ _ c.in_ok-m.was; remembers = meet_remembers _ _ _ _ _ c.requires.ready _ _ c.meet_type.ensures.met _ _ c.in_ok-m.was c.requires.remembers c.meet_type.auto.memo c.meet_type.ensures.remembered; covers = meet_covers _ _ _ _ _ c.requires.ready _ _ c.meet_type.ensures.met _ _ c.in_ok-m.was c.requires.covers }

pub returns-in_err-m-clause-runs : goal.returns-in_err-m-clause-runs
returns-in_err-m-clause-runs c = rw c.from_residual.ensures (meet_full _ _ _ _ _ c.requires.ready _ _ c.meet_type.ensures.met c.in_err-m.was)

pub returns : goal.returns
returns c = record { runs = meet_dualled _ _ _ _ _ c.requires.ready _ _ c.meet_type.ensures.met _ _ c.in_ok-m.was _ _ c.walk_type.ensures.walked; remembered = meet_remembered _ _ _ _ _ c.requires.ready _ _ c.meet_type.ensures.met _ _ c.in_ok-m.was c.requires.remembers c.meet_type.auto.memo c.meet_type.ensures.remembered c.walk_type.auto.memo c.walk_type.ensures.walked c.walk_type.ensures.remembered }
