-- Types that lack some shapes throughout: their least upper bounds lack them too. Assumes nothing.
use mathlib.Core.Path.{◌≡◌, refl}
use mathlib.Core.Bool.{Bool, true, false, true≢false}
use mathlib.Core.List.{List}
use Prim.Native.Nat.{ℕ}
use Rattle.trees.proofs.Tree.{Cls, ◌≼◌, Shape, con, tup, ptr, str, fre, mem, Ty, hi, lo, int, node, Tys, ε, ◌◂◌, shape_cls, cls, ◌⊑◌, up, dn, io, nd, fw, ◌⊑*◌, end, ◌&◌, nodes_below}
use Rattle.trees.proofs.Meet.{Meet}

-- memory, and forward references
abbrev pub is_mem : Shape → Bool
is_mem (con b n) = false
is_mem tup = false
is_mem ptr = false
is_mem (str n ns as₁) = false
is_mem (fre n) = false
is_mem (mem a) = true

abbrev pub is_fre : Shape → Bool
is_fre (con b n) = false
is_fre tup = false
is_fre ptr = false
is_fre (str n ns as₁) = false
is_fre (fre n) = true
is_fre (mem a) = false

module _ (bad : Shape → Bool) where
  mutual
    pub data Lacks : Ty → Type 0 where
      lhi : {c : Cls} → Lacks (hi c)
      llo : {c : Cls} → Lacks (lo c)
      lint : {x y : ℕ} → Lacks (int x y)
      lnode : {s : Shape} {fs : List Bool} {ts : Tys} → bad s ≡ false → Lacks* ts → Lacks (node s fs ts)

    pub data Lacks* : Tys → Type 0 where
      lend : Lacks* ε
      lmore : {t : Ty} {ts : Tys} → Lacks t → Lacks* ts → Lacks* (t ◂ ts)

  -- each such shape replaced by the top of its class
  strip_node : Bool → Shape → List Bool → Tys → Ty
  strip_node true s fs ts = hi (shape_cls s)
  strip_node false s fs ts = node s fs ts

  abbrev mutual
    strip : Ty → Ty
    strip (hi c) = hi c
    strip (lo c) = lo c
    strip (int x y) = int x y
    strip (node s fs ts) = strip_node (bad s) s fs (strip* ts)

    strip* : Tys → Tys
    strip* ε = ε
    strip* (t ◂ ts) = strip t ◂ strip* ts

  node_within : {c : Cls} (b : Bool) (s : Shape) (fs : List Bool) (ts : Tys) → c ≼ shape_cls s → c ≼ cls (strip_node b s fs ts)
  unfolding strip_node
  node_within true s fs ts p = p
  node_within false s fs ts p = p

  within : {c : Cls} (t : Ty) → c ≼ cls t → c ≼ cls (strip t)
  within (hi c) p = p
  within (lo c) p = p
  within (int x y) p = p
  within (node s fs ts) p = node_within (bad s) s fs (strip* ts) p

  module _ (structs : (n : ℕ) (ns as₁ : List ℕ) → bad (str n ns as₁) ≡ false) where
    -- what lacks them stays below
    mutual
      unfolding strip_node

      strip_above : {a c : Ty} → a ⊑ c → Lacks a → a ⊑ strip c
      strip_above (up {t = t} p) l = up (within t p)
      strip_above (dn p) l = dn p
      strip_above (io p q) l = io p q
      strip_above (nd f p) (lnode e l) = rw e (nd f (strips_above p l))
      strip_above (fw {n = n} {ns = ns} {as₁ = as₁}) l = rw (structs n ns as₁) fw

      strips_above : {ts us : Tys} → ts ⊑* us → Lacks* ts → ts ⊑* strip* us
      strips_above end lend = end
      strips_above (p & ps) (lmore l ls) = strip_above p l & strips_above ps ls

    not_top : {c : Cls} {s : Shape} {fs : List Bool} {ts : Tys} → node s fs ts ⊑ hi c → ⊥
    not_top = elim [ ]

    parts : {s : Shape} {fs gs : List Bool} {ts us : Tys} → node s fs ts ⊑ node s gs us → ts ⊑* us
    parts p = (nodes_below p refl).1

    head : {t u : Ty} {ts us : Tys} → t ◂ ts ⊑* u ◂ us → (t ⊑ u) × (ts ⊑* us)
    head (p & ps) = (p, ps)

    node_lacks : (b : Bool) (s : Shape) (fs : List Bool) (ts us : Tys) → bad s ≡ b → node s fs ts ⊑ strip_node b s fs us → (ts ⊑* us → Lacks* ts) → Lacks (node s fs ts)
    unfolding strip_node
    node_lacks true s fs ts us e p k = absurd (not_top p)
    node_lacks false s fs ts us e p k = lnode e (k (parts p))

    mutual
      strip_lacks : (c : Ty) → c ⊑ strip c → Lacks c
      strip_lacks (hi c) p = lhi
      strip_lacks (lo c) p = llo
      strip_lacks (int x y) p = lint
      strip_lacks (node s fs ts) p = node_lacks (bad s) s fs ts (strip* ts) refl p (λ q. strips_lack ts q)

      strips_lack : (ts : Tys) → ts ⊑* strip* ts → Lacks* ts
      strips_lack ε p = lend
      strips_lack (t ◂ ts) p = lmore (strip_lacks t (head p).0) (strips_lack ts (head p).1)

    pub meet_lacks : {a b c : Ty} → Meet a b c → Lacks a → Lacks b → Lacks c
    meet_lacks {c = c} m l k = strip_lacks c (m.least (strip_above m.left l) (strip_above m.right k))

-- without memory, without forward references
abbrev pub NoMem : Ty → Type 0
NoMem = Lacks is_mem

abbrev pub NoFre : Ty → Type 0
NoFre = Lacks is_fre

pub meet_no_mem : {a b c : Ty} → Meet a b c → NoMem a → NoMem b → NoMem c
meet_no_mem = meet_lacks is_mem (λ n ns as₁. refl)

pub meet_no_fre : {a b c : Ty} → Meet a b c → NoFre a → NoFre b → NoFre c
meet_no_fre = meet_lacks is_fre (λ n ns as₁. refl)

-- no forward reference is without them
pub fre_there : {n : ℕ} {fs : List Bool} {ts : Tys} {P : Type 0} → NoFre (node (fre n) fs ts) → P
fre_there (lnode e l) = absurd (true≢false e)
