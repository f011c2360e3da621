-- Document 01, "dual, join": "join: itself for one handle, else dual, dual, meet, dual, each made." `u` is the used words.
use Rattle.std.specs.Prelude.{cond, eqb}
use Rattle.words.specs.Made.{there}
use Rattle.meet.specs.Meet.{Op, meet_of}
use Rattle.walk.specs.Walk.{dual_of}

-- meet, then dual
abbrev pub dual_of_meet : Op
dual_of_meet u a b = let m = meet_of u a b in dual_of m.words m.handle

-- the second dual, then those
abbrev pub join_with : Op
join_with u a b = let d = dual_of u b in dual_of_meet d.words a d.handle

-- the first dual, then those
abbrev pub join_of : Op
join_of u a b = cond (eqb a b) (there u a) (let d = dual_of u a in join_with d.words d.handle b)
