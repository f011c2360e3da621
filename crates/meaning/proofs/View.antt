-- The tree of a handle, from one level of it: each handle has a view, whose parts are handles again. Assumes nothing.
use mathlib.Core.Path.{◌≡◌, refl, ap, ap₂, ◌∙◌}
use mathlib.Core.Bool.{Bool}
use mathlib.Core.List.{List, [], ◌∷◌}
use Prim.Native.Nat.{ℕ, zero, suc, ◌<◌, ◌≤◌}
use native.Mathlib.Nat.{le_refl}
use native.Mathlib.Omega.{arith}
use Rattle.parts.specs.Parts.{All}
use Rattle.trees.proofs.Tree.{Cls, all, Shape, Ty, hi, lo, int, node, Tys, ε, ◌◂◌}

-- one level of a type: its parts are handles
pub data View : Type 0 where
  vhi vlo : Cls → View
  vint : ℕ → ℕ → View
  vnode : Shape → List Bool → List ℕ → View

abbrev pub row : (ℕ → Ty) → List ℕ → Tys
row f [] = ε
row f (k ∷ ks) = f k ◂ row f ks

abbrev pub build : (ℕ → Ty) → View → Ty
build f (vhi c) = hi c
build f (vlo c) = lo c
build f (vint x y) = int x y
build f (vnode s fs ks) = node s fs (row f ks)

-- what is valid and earlier than h
abbrev pub Before : (ℕ → Type 0) → ℕ → ℕ → Type 0
Before valid h k = valid k × (k < h)

abbrev pub Earlier : (ℕ → Type 0) → ℕ → View → Type 0
Earlier valid h (vhi c) = Unit {0}
Earlier valid h (vlo c) = Unit {0}
Earlier valid h (vint x y) = Unit {0}
Earlier valid h (vnode s fs ks) = All (Before valid h) ks

-- ---- the tree of a handle

module _ (view : ℕ → View) where
  tree_within : ℕ → ℕ → Ty
  tree_within zero h = hi all
  tree_within (suc n) h = build (tree_within n) (view h)

  pub tree : ℕ → Ty
  tree h = tree_within (suc h) h

  infix 40 ◌⟼◌
  infix 40 ◌⟼*◌
  mutual
    data ◌⟼◌ : View → Ty → Type 0 where
      thi : {c : Cls} → vhi c ⟼ hi c
      tlo : {c : Cls} → vlo c ⟼ lo c
      tint : {x y : ℕ} → vint x y ⟼ int x y
      tnode : {s : Shape} {fs : List Bool} {hs : List ℕ} {ts : Tys} → hs ⟼* ts → vnode s fs hs ⟼ node s fs ts

    data ◌⟼*◌ : List ℕ → Tys → Type 0 where
      tnil : [] ⟼* ε
      tcons : {h : ℕ} {hs : List ℕ} {t : Ty} {ts : Tys} → view h ⟼ t → hs ⟼* ts → h ∷ hs ⟼* t ◂ ts

  -- a view has one tree
  mutual
    tree_one : {v : View} {t u : Ty} → v ⟼ t → v ⟼ u → t ≡ u
    tree_one thi thi = refl
    tree_one tlo tlo = refl
    tree_one tint tint = refl
    tree_one (tnode {s = s} {fs = fs} p) (tnode q) = ap (node s fs) (trees_one p q)

    trees_one : {hs : List ℕ} {ts us : Tys} → hs ⟼* ts → hs ⟼* us → ts ≡ us
    trees_one tnil tnil = refl
    trees_one (tcons p ps) (tcons q qs) = ap₂ ◌◂◌ (tree_one p q) (trees_one ps qs)

  module _ (valid : ℕ → Type 0) (earlier : (h : ℕ) → valid h → Earlier valid h (view h)) where
    module _ (n : ℕ) (f : ℕ → Ty) (below : (k : ℕ) → k < n → valid k → view k ⟼ f k) (h : ℕ) (l : h ≤ n) where
      is_row : (ks : List ℕ) → All (Before valid h) ks → ks ⟼* row f ks
      is_row [] p = tnil
      is_row (k ∷ ks) p = tcons (below k (omega (arith, p.0.1)) p.0.0) (is_row ks p.1)

      is_build : (v : View) → Earlier valid h v → v ⟼ build f v
      is_build (vhi c) e = thi
      is_build (vlo c) e = tlo
      is_build (vint x y) e = tint
      is_build (vnode s fs ks) e = tnode (is_row ks e)

    is_within : (n h : ℕ) → h < n → valid h → view h ⟼ tree_within n h
    unfolding tree_within
    is_within zero h l v = absurd (let z : ⊥ = omega arith in z)
    is_within (suc n) h l v = is_build n (tree_within n) (is_within n) h (omega arith) (view h) (earlier h v)

    is_tree : (h : ℕ) → valid h → view h ⟼ tree h
    unfolding tree
    is_tree h v = is_within (suc h) h (omega arith) v

    pub tree_eq : (h : ℕ) → valid h → tree h ≡ build tree (view h)
    tree_eq h v = tree_one (is_tree h v) (is_build h tree (λ k l. is_tree k) h (le_refl h) (view h) (earlier h v))

    -- where no two handles have one view, no two have one tree
    module _ (uniq : (h k : ℕ) → valid h → valid k → view h ≡ view k → h ≡ k) where
      mutual
        view_one : {v w : View} {t : Ty} → v ⟼ t → w ⟼ t → (n m : ℕ) → Earlier valid n v → Earlier valid m w → v ≡ w
        view_one thi thi n m a b = refl
        view_one tlo tlo n m a b = refl
        view_one tint tint n m a b = refl
        view_one (tnode {s = s} {fs = fs} p) (tnode q) n m a b = ap (vnode s fs) (views_one p q n m a b)

        views_one : {hs ks : List ℕ} {ts : Tys} → hs ⟼* ts → ks ⟼* ts → (n m : ℕ) → All (Before valid n) hs → All (Before valid m) ks → hs ≡ ks
        views_one tnil tnil n m a b = refl
        views_one (tcons {h = h} p ps) (tcons {h = k} q qs) n m a b =
            let v = a.0.0 in
            let w = b.0.0 in
            ap₂ ◌∷◌ (uniq h k v w (view_one p q h k (earlier h v) (earlier k w))) (views_one ps qs n m a.1 b.1)

      pub tree_same : (h k : ℕ) → valid h → valid k → tree h ≡ tree k → h ≡ k
      tree_same h k v w e = uniq h k v w (view_one (is_tree h v) (rw e (is_tree k w)) h k (earlier h v) (earlier k w))

-- ---- a later store: the handles keep their views, and so their trees

module _ (view view' : ℕ → View) (valid valid' : ℕ → Type 0)
    (earlier : (h : ℕ) → valid h → Earlier valid h (view h))
    (earlier' : (h : ℕ) → valid' h → Earlier valid' h (view' h))
    (still : (h : ℕ) → valid h → valid' h) (alike : (h : ℕ) → valid h → view' h ≡ view h) where
  row_kept : (n : ℕ) → ((k : ℕ) → k < n → valid k → tree view' k ≡ tree view k) → (h : ℕ) → h ≤ n → (ks : List ℕ) → All (Before valid h) ks → row (tree view') ks ≡ row (tree view) ks
  row_kept n ih h l [] a = refl
  row_kept n ih h l (k ∷ ks) a = ap₂ ◌◂◌ (ih k (omega (arith, a.0.1)) a.0.0) (row_kept n ih h l ks a.1)

  build_kept : (n : ℕ) → ((k : ℕ) → k < n → valid k → tree view' k ≡ tree view k) → (h : ℕ) → h ≤ n → (v : View) → Earlier valid h v → build (tree view') v ≡ build (tree view) v
  build_kept n ih h l (vhi c) e = refl
  build_kept n ih h l (vlo c) e = refl
  build_kept n ih h l (vint x y) e = refl
  build_kept n ih h l (vnode s fs ks) e = ap (node s fs) (row_kept n ih h l ks e)

  below_kept : (n h : ℕ) → h < n → valid h → tree view' h ≡ tree view h
  below_kept zero h l v = absurd (let z : ⊥ = omega arith in z)
  below_kept (suc n) h l v =
      tree_eq view' valid' earlier' h (still h v)
      ∙ ap (build (tree view')) (alike h v)
      ∙ build_kept n (below_kept n) h (omega arith) (view h) (earlier h v)
      ∙ (let e : build (tree view) (view h) ≡ tree view h = rw (tree_eq view valid earlier h v) in e)

  pub tree_kept : (h : ℕ) → valid h → tree view' h ≡ tree view h
  tree_kept h v = below_kept (suc h) h (omega arith) v
