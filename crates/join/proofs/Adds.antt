-- join adds good entries to good used words, and its answer is a type at most as deep as a type may be. Assumes nothing.
use mathlib.Core.Bool.{Bool, true, false, cond}
use mathlib.Core.List.{List}
use Prim.Native.Nat.{ℕ, suc, max}
use native.Mathlib.Omega.{arith}
use lib.Dec.{eqb}
use lib.ListN.{length}
use Rattle.words.specs.Made.{Grown, there}
use Rattle.call.specs.Adds.{Adds}
use Rattle.call.proofs.Sound.{adds_none, adds_then}
use Rattle.parts.specs.Parts.{Good, Part}
use Rattle.parts.proofs.Good.{part_weak, part_below, adds_long, good_adds, part_adds, Answers}
use Rattle.meet.specs.Meet.{meet_of}
use Rattle.meet.proofs.Nice.{meet_nice}
use Rattle.walk_rules.specs.declared.Walk.TheVariants.{Dual}
use Rattle.walk.specs.Walk.{dual_of}
use Rattle.walk.proofs.Nice.{walk_nice}
use Rattle.join.specs.Join.{dual_of_meet, join_with, join_of}

-- a type among the used words
abbrev pub TypeIn : List ℕ → ℕ → Type 0
TypeIn u h = Part u (length u) 33 1 11 h

pub record Given (u : List ℕ) (g : Grown) : Type 0 where
  pub adds : Adds u g
  pub part : TypeIn g.words g.handle

pub answered : {u : List ℕ} {g : Grown} → Answers u 33 1 11 g → Given u g
answered r = record { adds = r.adds; part = r.part }

pub dualled : (u : List ℕ) (h : ℕ) → Good u → TypeIn u h → Given u (dual_of u h)
dualled u h g p = answered ((walk_nice Dual (suc h)).types u h 33 g (part_below (suc h) (omega arith) p))

-- one operation after another
pub after : {u : List ℕ} (g₁ g₂ : Grown) → Given u g₁ → Given g₁.words g₂ → Given u g₂
after {u} g₁ g₂ a b = record { adds = adds_then u g₁ g₂ a.adds b.adds; part = b.part }

-- a type that was there is still there
pub later : {u : List ℕ} {g : Grown} (h : ℕ) → Good u → Given u g → TypeIn u h → TypeIn g.words h
later {u} {g} h good a p = part_weak (length g.words) 33 (adds_long good a.adds) (omega arith) (part_adds good a.adds p)

pub met : (u : List ℕ) (a b : ℕ) → Good u → TypeIn u a → TypeIn u b → Given u (meet_of u a b)
met u a b g pa pb =
    let k = suc (max a b) in
    answered (meet_nice k u a b 33 g (part_below k (omega arith) pa) (part_below k (omega arith) pb))

meet_dualled : (u : List ℕ) (a b : ℕ) → Good u → TypeIn u a → TypeIn u b → Given u (dual_of_meet u a b)
meet_dualled u a b g pa pb =
    let m = meet_of u a b in
    let r = met u a b g pa pb in
    after m (dual_of m.words m.handle) r (dualled m.words m.handle (good_adds g r.adds) r.part)

with_given : (u : List ℕ) (a b : ℕ) → Good u → TypeIn u a → TypeIn u b → Given u (join_with u a b)
with_given u a b g pa pb =
    let d = dual_of u b in
    let r = dualled u b g pb in
    after d (dual_of_meet d.words a d.handle) r (meet_dualled d.words a d.handle (good_adds g r.adds) (later a g r pa) r.part)

pub join_given : (u : List ℕ) (a b : ℕ) → Good u → TypeIn u a → TypeIn u b → Given u (join_of u a b)
join_given u a b g pa pb = go (eqb a b)
  where
    go : (t : Bool) → Given u (cond t (there u a) (let d = dual_of u a in join_with d.words d.handle b))
    go true = record { adds = adds_none u a g.sound; part = pa }
    go false =
        let d = dual_of u a in
        let r = dualled u a g pa in
        after d (join_with d.words d.handle b) r (with_given d.words d.handle b (good_adds g r.adds) r.part (later b g r pb))

pub join_adds : (u : List ℕ) (a b : ℕ) → Good u → TypeIn u a → TypeIn u b → Adds u (join_of u a b)
join_adds u a b g pa pb = (join_given u a b g pa pb).adds
