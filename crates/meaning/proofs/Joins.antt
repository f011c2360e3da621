-- In a store without equal entries join gives the greatest lower bound, of types that reach no memory type and no forward reference. Assumes nothing.
use mathlib.Core.Path.{◌≡◌, refl, ap, ◌∙◌}
use mathlib.Core.Logic.{inl}
use mathlib.Core.Bool.{Bool, true, false, cond}
use mathlib.Core.List.{List}
use Prim.Native.Nat.{ℕ, suc, max}
use native.Mathlib.Omega.{arith}
use borrow.Author.Tests.{eqb-true}
use lib.Dec.{eqb}
use Rattle.words.specs.Made.{Grown, there}
use Rattle.parts.proofs.Good.{part_below}
use Rattle.meet.specs.Meet.{meet_of}
use Rattle.meet.proofs.Nice.{meet_nice}
use Rattle.walk_rules.specs.declared.Walk.TheVariants.{Dual}
use Rattle.walk.specs.Walk.{dual_of}
use Rattle.join.specs.Join.{join_with, join_of}
use Rattle.join.proofs.Adds.{dualled, answered}
use Rattle.trees.proofs.Tree.{Ty, ⊑_refl}
use Rattle.trees.proofs.Meet.{Meet}
use Rattle.trees.proofs.Free.{NoMem, NoFre, meet_no_mem, meet_no_fre}
use Rattle.trees.proofs.Dual.{dual, dual_lacks, Join, join_dual}
use Rattle.meaning.proofs.Store.{Distinct, Typed, tree_on, onward_adds, grown, still, kept}
use Rattle.meaning.proofs.Meets.{meet_right}
use Rattle.meaning.proofs.Walks.{walk_right}

-- the dual of a type
pub dual_tree : (u : List ℕ) (a : ℕ) → Distinct u → Typed u a → tree_on (dual_of u a).words (dual_of u a).handle ≡ dual (tree_on u a)
dual_tree u a S p = walk_right Dual (suc a) u a S (part_below (suc a) (omega arith) p)

itself : (t : Ty) → Join t t t
itself t = record { left = ⊑_refl t; right = ⊑_refl t; greatest = λ l p q. p }

module _ (u : List ℕ) (a b : ℕ) (S : Distinct u) (pa : Typed u a) (pb : Typed u b) (fa : NoFre (tree_on u a)) (fb : NoFre (tree_on u b)) (ma : NoMem (tree_on u a)) (mb : NoMem (tree_on u b)) where
  abbrev d : Grown
  d = dual_of u a

  abbrev e : Grown
  e = dual_of d.words b

  abbrev m : Grown
  m = meet_of e.words d.handle e.handle

  abbrev r : Grown
  r = dual_of m.words m.handle

  -- the greatest lower bound, which reaches neither again
  abbrev pub Joined : Grown → Type 0
  Joined g = Join (tree_on u a) (tree_on u b) (tree_on g.words g.handle) × NoMem (tree_on g.words g.handle) × NoFre (tree_on g.words g.handle)

  made : Joined r
  made =
      let gd = dualled u a S.good pa in
      let Sd = grown S gd.adds in
      let td = dual_tree u a S pa in
      let on = onward_adds gd.adds in
      let vb = still S.good Sd.good on b pb in
      let ge = dualled d.words b Sd.good vb in
      let Se = grown Sd ge.adds in
      let te : tree_on e.words e.handle ≡ dual (tree_on u b) = dual_tree d.words b Sd vb ∙ ap dual (kept S.good Sd.good on b pb) in
      let on₂ = onward_adds ge.adds in
      let vd = still Sd.good Se.good on₂ d.handle gd.part in
      let td₂ : tree_on e.words d.handle ≡ dual (tree_on u a) = kept Sd.good Se.good on₂ d.handle gd.part ∙ td in
      let n = suc (max d.handle e.handle) in
      let pd = part_below n (omega arith) vd in
      let pe = part_below n (omega arith) ge.part in
      let x = meet_right n e.words d.handle e.handle Se pd pe (inl (rw td₂ (dual_lacks ma))) in
      let gm = answered (meet_nice n e.words d.handle e.handle 33 Se.good pd pe) in
      let Sm = grown Se gm.adds in
      let tr : tree_on r.words r.handle ≡ dual (tree_on m.words m.handle) = dual_tree m.words m.handle Sm gm.part in
      let y : Meet (dual (tree_on u a)) (dual (tree_on u b)) (tree_on m.words m.handle) = rw (td₂, te) at x in
      rw tr (join_dual y fa fb, dual_lacks (meet_no_mem y (dual_lacks ma) (dual_lacks mb)), dual_lacks (meet_no_fre y (dual_lacks fa) (dual_lacks fb)))

  pub join_right : Joined (join_of u a b)
  join_right = go (eqb a b) refl
    where
      go : (t : Bool) → eqb a b ≡ t → Joined (cond t (there u a) (join_with d.words d.handle b))
      go true q = (rw (← eqb-true a b q) (itself (tree_on u a)), ma, fa)
      go false q = made
