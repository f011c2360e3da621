use Rattle.join.proofs.Halves.{duals_long, remembered_full, remembered_same}
use Rattle.join.proofs.Steps.{join_covers, join_remembers, join_same, join_full, join_ready, join_made}
use Rattle.join.proofs.join.Goals as goal

pub returns-then-a-b : goal.returns-then-a-b
returns-then-a-b c = record { runs = join_same _ _ _ _ _ c.requires.ready c.if-a-b.true; remembered = remembered_same c.requires.remembers }

pub join_with-requires : goal.join_with-requires
join_with-requires c = record { ready = join_ready _ _ _ _ _ c.requires.ready c.if-a-b.false _ _ c.walk_type.ensures.walked _ _ c.in_ok-d.was; remembers = join_remembers _ _ _ _ _ c.requires.ready c.if-a-b.false _ _ c.walk_type.ensures.walked _ _ c.in_ok-d.was c.requires.remembers c.walk_type.auto.memo c.walk_type.ensures.remembered; covers = join_covers _ _ _ _ _ c.requires.ready c.if-a-b.false _ _ c.walk_type.ensures.walked _ _ c.in_ok-d.was c.requires.covers }

pub returns-in_err-d-clause-runs : goal.returns-in_err-d-clause-runs
returns-in_err-d-clause-runs c = rw c.from_residual.ensures (join_full _ _ _ _ _ c.requires.ready c.if-a-b.false _ _ c.walk_type.ensures.walked c.in_err-d.was)

pub returns : goal.returns
returns c = record { runs = join_made _ _ _ _ _ c.requires.ready c.if-a-b.false _ _ c.walk_type.ensures.walked _ _ c.in_ok-d.was _ _ c.join_with.ensures.runs; remembered = c.join_with.ensures.remembered }
