use Rattle.memo.proofs.Lines.{lines_none}
use Rattle.join.proofs.Halves.{remembers_none}
use Rattle.own_memory.proofs.Cases.{asked_meet, done_meet, asked_walk, done_walk, asked_ro, done_ro, asked_join, done_join}
use Rattle.own_memory.proofs.operate.Goals as goal

pub meet_type-requires : goal.meet_type-requires
meet_type-requires c = record { ready = asked_meet _ _ _ _ _ _ c.in-Meet.is c.requires.asked; remembers = lines_none c.requires.by_index; covers = c.requires.covers }

pub walk_type-requires : goal.walk_type-requires
walk_type-requires c = record { ready_one = asked_walk _ _ _ _ _ _ c.in-Walk.is c.requires.asked; remembers = lines_none c.requires.by_index; covers = c.requires.covers }

pub make_ro-requires : goal.make_ro-requires
make_ro-requires c = record {
  ready_one = asked_ro _ _ _ _ _ c.in-MakeRo.is c.requires.asked;
  remembers = record { lines = lines_none c.requires.by_index; finals = c.requires.knows };
  covers = c.requires.covers;
}

pub join-requires : goal.join-requires
join-requires c = record { ready = asked_join _ _ _ _ _ _ c.in-Join.is c.requires.asked; remembers = remembers_none _ _ c.requires.by_index; covers = c.requires.covers }

pub returns-in-Meet : goal.returns-in-Meet
returns-in-Meet c = let d = done_meet _ _ _ _ _ _ _ _ _ c.in-Meet.is c.meet_type.ensures.met in record { done = d.0; knows_after = d.1 }

pub returns-in-Walk : goal.returns-in-Walk
returns-in-Walk c = let d = done_walk _ _ _ _ _ _ _ _ _ c.in-Walk.is c.walk_type.ensures.walked in record { done = d.0; knows_after = d.1 }

pub returns-in-MakeRo : goal.returns-in-MakeRo
returns-in-MakeRo c = let d = done_ro _ _ _ _ _ _ _ _ c.in-MakeRo.is c.make_ro.ensures.made_ro c.make_ro.ensures.remembered in record { done = d.0; knows_after = d.1 }

pub returns-in-Join : goal.returns-in-Join
returns-in-Join c = let d = done_join _ _ _ _ _ _ _ _ _ c.in-Join.is c.join.ensures.runs in record { done = d.0; knows_after = d.1 }
