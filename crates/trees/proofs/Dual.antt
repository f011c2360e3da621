-- dual: an involution that turns the order over, where there is no forward reference; so joins are the greatest lower bounds. Assumes nothing.
use mathlib.Core.Path.{◌≡◌, refl, ap₂}
use mathlib.Core.Bool.{Bool, true, false, not}
use mathlib.Core.List.{List, [], ◌∷◌}
use Rattle.trees.proofs.Tree.{Cls, ◌≼◌, Shape, Ty, hi, lo, int, node, Tys, ε, ◌◂◌, cls, ◌≤ᵇ◌, off, on, ◌≤*◌, stop, ◌⨟◌, ◌⊑◌, up, dn, io, nd, fw, ◌⊑*◌, end, ◌&◌}
use Rattle.trees.proofs.Meet.{Meet}
use Rattle.trees.proofs.Free.{Lacks, Lacks*, lhi, llo, lint, lnode, lend, lmore, NoFre, is_fre, meet_no_fre, fre_there}

abbrev pub nots : List Bool → List Bool
nots [] = []
nots (f ∷ fs) = not f ∷ nots fs

abbrev mutual
  pub dual : Ty → Ty
  dual (hi c) = lo c
  dual (lo c) = hi c
  dual (int x y) = int y x
  dual (node s fs ts) = node s (nots fs) (dual* ts)

  pub dual* : Tys → Tys
  dual* ε = ε
  dual* (t ◂ ts) = dual t ◂ dual* ts

-- ---- twice is once back

not_not : (f : Bool) → not (not f) ≡ f
not_not true = refl
not_not false = refl

nots_nots : (fs : List Bool) → nots (nots fs) ≡ fs
nots_nots [] = refl
nots_nots (f ∷ fs) = ap₂ ◌∷◌ (not_not f) (nots_nots fs)

mutual
  pub dual_dual : (t : Ty) → dual (dual t) ≡ t
  dual_dual (hi c) = refl
  dual_dual (lo c) = refl
  dual_dual (int x y) = refl
  dual_dual (node s fs ts) = ap₂ (node s) (nots_nots fs) (dual*-dual* ts)

  dual*-dual* : (ts : Tys) → dual* (dual* ts) ≡ ts
  dual*-dual* ε = refl
  dual*-dual* (t ◂ ts) = ap₂ ◌◂◌ (dual_dual t) (dual*-dual* ts)

-- ---- the shapes stay

module _ {bad : Shape → Bool} where
  mutual
    pub dual_lacks : {t : Ty} → Lacks bad t → Lacks bad (dual t)
    dual_lacks lhi = llo
    dual_lacks llo = lhi
    dual_lacks lint = lint
    dual_lacks (lnode e l) = lnode e (duals_lack l)

    duals_lack : {ts : Tys} → Lacks* bad ts → Lacks* bad (dual* ts)
    duals_lack lend = lend
    duals_lack (lmore l ls) = lmore (dual_lacks l) (duals_lack ls)

-- ---- the order turns over

≼_dual : {c : Cls} (t : Ty) → c ≼ cls t → c ≼ cls (dual t)
≼_dual (hi d) p = p
≼_dual (lo d) p = p
≼_dual (int x y) p = p
≼_dual (node s fs ts) p = p

not_turns : {a b : Bool} → a ≤ᵇ b → not b ≤ᵇ not a
not_turns (off {b = true}) = off
not_turns (off {b = false}) = on
not_turns on = off

nots_turn : {fs gs : List Bool} → fs ≤* gs → nots gs ≤* nots fs
nots_turn stop = stop
nots_turn (p ⨟ ps) = not_turns p ⨟ nots_turn ps

mutual
  pub dual_turns : {a b : Ty} → a ⊑ b → NoFre a → dual b ⊑ dual a
  dual_turns (up {t = t} p) l = dn (≼_dual t p)
  dual_turns (dn {t = t} p) l = up (≼_dual t p)
  dual_turns (io p q) l = io q p
  dual_turns (nd f p) (lnode e l) = nd (nots_turn f) (duals_turn p l)
  dual_turns fw l = fre_there l

  duals_turn : {ts us : Tys} → ts ⊑* us → Lacks* is_fre ts → dual* us ⊑* dual* ts
  duals_turn end lend = end
  duals_turn (p & ps) (lmore l ls) = dual_turns p l & duals_turn ps ls

-- ---- join: the dual of the duals' meet is the greatest lower bound, among types without forward references

pub record Join (a b c : Ty) : Type 0 where
  pub left : c ⊑ a
  pub right : c ⊑ b
  pub greatest : {u : Ty} → NoFre u → u ⊑ a → u ⊑ b → u ⊑ c

module _ {a b c : Ty} (m : Meet (dual a) (dual b) c) (la : NoFre a) (lb : NoFre b) where
  no_fre : NoFre c
  no_fre = meet_no_fre m (dual_lacks la) (dual_lacks lb)

  back : (t : Ty) → NoFre t → dual t ⊑ c → dual c ⊑ t
  back t l p = rw dual_dual at (dual_turns p (dual_lacks l))

  pub join_dual : Join a b (dual c)
  join_dual = record {
    left = back a la m.left;
    right = back b lb m.right;
    greatest = λ l p q. rw dual_dual at (dual_turns (m.least (dual_turns p l) (dual_turns q l)) no_fre);
  }
