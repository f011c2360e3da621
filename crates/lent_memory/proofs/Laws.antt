-- A lent memory that is right stays so as the store grows, and one of its parts may be replaced by another that is right. Assumes nothing.
use mathlib.Core.Path.{◌≡◌, refl, ◌∙◌}
use mathlib.Core.Bool.{Bool, true, false}
use mathlib.Core.List.{List, [], ◌++◌}
use Prim.Native.Nat.{ℕ, ◌+◌, ◌*◌, ◌/◌}
use native.Mathlib.Omega.{arith}
use borrow.Author.Tests.{ltb-true, ltb-false}
use lib.Dec.{ltb}
use lib.ListN.{length, take, drop, get_or, replicate, length-take, get_or-eq_default}
use lib.Seq.{get_or-take, get_or-drop}
use Rattle.bitset.proofs.Bit.{none}
use Rattle.words.specs.Made.{Grown}
use Rattle.words.specs.Ran.{Segments, Ran}
use Rattle.std.specs.Prelude.{Option}
use Rattle.words.specs.declared.Interned.{Interned}
use Rattle.words.proofs.Extend.{Extends}
use Rattle.words.proofs.Zeros.{zeros}
use Rattle.memo.specs.Memo.{Lines}
use Rattle.memo.proofs.Lines.{lines_none}
use Rattle.later.specs.Later.{Later}
use Rattle.later.specs.Right.{RightAfter}
use Rattle.later.proofs.Right.{lines_later, made_later}
use Rattle.meet_types.specs.Remembered.{Remembers as RemembersMeets, Settled as SettledMeet}
use Rattle.meet_types.proofs.Recall.{settled_stays as meets-stay}
use Rattle.walk_rules.specs.declared.Walk.{Walk}
use Rattle.walk_rules.specs.declared.Walk.TheVariants.{Dual, Glb, Lub}
use Rattle.walk.specs.Remembered.{Remembers as RemembersWalks, Settled as SettledWalk}
use Rattle.walk.proofs.Recall.{settled_stays as walks-stay}
use Rattle.finals.specs.Known.{Knows}
use Rattle.finals.proofs.Knows.{knows_later, knows_none}
use Rattle.make_ro.specs.Remembered.{Settled as SettledRo}
use Rattle.make_ro.proofs.Recall.{settled_stays as ros-stay}
use Rattle.join.specs.Memory.{Remembers as RemembersJoin, Remembered as RememberedJoin}
use Rattle.lent_memory.specs.Memory.{part, Right, RightThen}
use Rattle.memory_steps.specs.Steps.{part_of}
use Rattle.lent_memory.proofs.Parts.{Put, Front}

-- for used words that came later
pub right_later : {u v memory : List ℕ} → Later u v → Right u memory → Right v memory
right_later x r = record {
  duals = lines_later (walks-stay Dual) x r.duals;
  meets = lines_later meets-stay x r.meets;
  glbs = lines_later (walks-stay Glb) x r.glbs;
  lubs = lines_later (walks-stay Lub) x r.lubs;
  ros = lines_later ros-stay x r.ros;
  finals = knows_later x r.finals;
}

-- ---- every word of each part is 0

right_zero : (u memory : List ℕ) → ((i k : ℕ) → get_or (part i memory) k 0 ≡ 0) → Right u memory
right_zero u memory z = record {
  duals = lines_none (z 0);
  meets = lines_none (z 1);
  glbs = lines_none (z 2);
  lubs = lines_none (z 3);
  ros = lines_none (z 4);
  finals = knows_none u (part 5 memory) (none (part 5 memory) (z 5));
}

pub right_blank : (u : List ℕ) (n : ℕ) → Right u (replicate n 0)
unfolding part
right_blank u n = right_zero u (replicate n 0) (λ i k. go i k (ltb k m) refl)
  where
    m : ℕ
    m = length {A = ℕ} (replicate n 0) / 6

    go : (i k : ℕ) (t : Bool) → ltb k m ≡ t → get_or (part i (replicate n 0)) k 0 ≡ 0
    go i k true q = get_or-take m (drop (i * m) (replicate n 0)) k 0 (ltb-true k m q) ∙ get_or-drop (i * m) (replicate n 0) k 0 ∙ zeros n (i * m + k)
    go i k false q = get_or-eq_default (take m (drop (i * m) (replicate n 0))) 0 (omega (arith, length-take {A = ℕ} m (drop (i * m) (replicate n 0)), ltb-false k m q))

pub right_none : (u : List ℕ) → Right u []
right_none u = right_blank u 0

-- ---- one part is replaced

module _ {u memory d memory' : List ℕ} (r : Right u memory) where
  pub right_walks : (walk : Walk) → Put (part_of walk) memory d memory' → RemembersWalks walk u d → Right u memory'
  unfolding part_of
  right_walks Dual p m = record {
    duals = rw p.same m;
    meets = rw (p.other 1 (omega arith)) r.meets;
    glbs = rw (p.other 2 (omega arith)) r.glbs;
    lubs = rw (p.other 3 (omega arith)) r.lubs;
    ros = rw (p.other 4 (omega arith)) r.ros;
    finals = rw (p.other 5 (omega arith)) r.finals;
  }
  right_walks Glb p m = record {
    duals = rw (p.other 0 (omega arith)) r.duals;
    meets = rw (p.other 1 (omega arith)) r.meets;
    glbs = rw p.same m;
    lubs = rw (p.other 3 (omega arith)) r.lubs;
    ros = rw (p.other 4 (omega arith)) r.ros;
    finals = rw (p.other 5 (omega arith)) r.finals;
  }
  right_walks Lub p m = record {
    duals = rw (p.other 0 (omega arith)) r.duals;
    meets = rw (p.other 1 (omega arith)) r.meets;
    glbs = rw (p.other 2 (omega arith)) r.glbs;
    lubs = rw p.same m;
    ros = rw (p.other 4 (omega arith)) r.ros;
    finals = rw (p.other 5 (omega arith)) r.finals;
  }

  pub right_meets : Put 1 memory d memory' → RemembersMeets u d → Right u memory'
  right_meets p m = record {
    duals = rw (p.other 0 (omega arith)) r.duals;
    meets = rw p.same m;
    glbs = rw (p.other 2 (omega arith)) r.glbs;
    lubs = rw (p.other 3 (omega arith)) r.lubs;
    ros = rw (p.other 4 (omega arith)) r.ros;
    finals = rw (p.other 5 (omega arith)) r.finals;
  }

  pub right_ros : Put 4 memory d memory' → Lines (SettledRo u) d → Right u memory'
  right_ros p m = record {
    duals = rw (p.other 0 (omega arith)) r.duals;
    meets = rw (p.other 1 (omega arith)) r.meets;
    glbs = rw (p.other 2 (omega arith)) r.glbs;
    lubs = rw (p.other 3 (omega arith)) r.lubs;
    ros = rw p.same m;
    finals = rw (p.other 5 (omega arith)) r.finals;
  }

  pub right_finals : Put 5 memory d memory' → Knows u d → Right u memory'
  right_finals p m = record {
    duals = rw (p.other 0 (omega arith)) r.duals;
    meets = rw (p.other 1 (omega arith)) r.meets;
    glbs = rw (p.other 2 (omega arith)) r.glbs;
    lubs = rw (p.other 3 (omega arith)) r.lubs;
    ros = rw (p.other 4 (omega arith)) r.ros;
    finals = rw p.same m;
  }

  -- two parts, by join
  pub right_both : Front memory d memory' → RemembersJoin u d → Right u memory'
  right_both f m = record {
    duals = rw f.first m.duals;
    meets = rw f.second m.meets;
    glbs = rw (f.other 2 (omega arith)) r.glbs;
    lubs = rw (f.other 3 (omega arith)) r.lubs;
    ros = rw (f.other 4 (omega arith)) r.ros;
    finals = rw (f.other 5 (omega arith)) r.finals;
  }

-- ---- after an operation

-- one that left the memory alone
pub then_kept : {old new memory : List ℕ} {used : ℕ} → Segments old new used → Right (take used (old ++ new)) memory → (g : Grown) → Extends (take used (old ++ new)) g.words → (new' : List ℕ) {r : Option Interned} → Ran used g (old ++ new) (old ++ new') r → RightThen old new' r memory
then_kept s m g x new' ran = record { is = λ h v e. right_later (made_later s g x new' ran h v e) m }

-- one that was lent a part
module _ {old new' memory d memory' : List ℕ} {r : Option Interned} (t : RightThen old new' r memory) where
  pub then_walks : (walk : Walk) → Put (part_of walk) memory d memory' → RightAfter (SettledWalk walk) old new' r d → RightThen old new' r memory'
  then_walks walk p m = record { is = λ h v e. right_walks (t.is h v e) walk p (m.is h v e) }

  pub then_meets : Put 1 memory d memory' → RightAfter SettledMeet old new' r d → RightThen old new' r memory'
  then_meets p m = record { is = λ h v e. right_meets (t.is h v e) p (m.is h v e) }

  pub then_ros : Put 4 memory d memory' → RightAfter SettledRo old new' r d → RightThen old new' r memory'
  then_ros p m = record { is = λ h v e. right_ros (t.is h v e) p (m.is h v e) }

  pub then_both : Front memory d memory' → RememberedJoin old new' r d → RightThen old new' r memory'
  then_both f m = record { is = λ h v e. right_both (t.is h v e) f (m.is h v e) }
