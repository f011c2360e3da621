-- The rules of meet, each with its least upper bound. Assumes nothing.
use mathlib.Core.Path.{◌≡◌, refl, ap, sym, ◌∙◌}
use mathlib.Core.Logic.{◌≢◌, ◌⊎◌, inl, inr}
use mathlib.Core.Bool.{Bool, true, false, ◌||◌}
use mathlib.Core.List.{List, [], ◌∷◌}
use Prim.Native.Nat.{ℕ, suc, min, max}
use native.Mathlib.Nat.{le-min, max-le, min-le_left, min-le_right, le-max_left, le-max_right}
use Rattle.trees.proofs.Order.{Lub, lub_sym, lub_of_le}
use Rattle.trees.proofs.Tree.{Cls, all, ctl, f64, f32, stc, ◌≼◌, any, same, wide, Shape, con, tup, ptr, str, fre, mem, Ty, hi, lo, int, node, Tys, ε, ◌◂◌, shape_cls, cls}
use Rattle.trees.proofs.Tree.{◌≤ᵇ◌, off, on, ◌≤*◌, stop, ◌⨟◌, ◌⊑◌, up, dn, io, nd, fw, ◌⊑*◌, end, ◌&◌, ⊑_order}

-- the least upper bound of two types, of two lists of flags, of two lists of types
abbrev pub Meet : Ty → Ty → Ty → Type 0
Meet = Lub ◌⊑◌

abbrev pub Flags : List Bool → List Bool → List Bool → Type 0
Flags = Lub ◌≤*◌

abbrev pub Meet* : Tys → Tys → Tys → Type 0
Meet* = Lub ◌⊑*◌

-- ---- one of the two is the answer

pub meet_le : {a b : Ty} → a ⊑ b → Meet a b b
meet_le = lub_of_le ◌⊑◌ ⊑_order

pub meet_sym : {a b c : Ty} → Meet a b c → Meet b a c
meet_sym = lub_sym ◌⊑◌

pub meet_ge : {a b : Ty} → b ⊑ a → Meet a b a
meet_ge p = meet_sym (meet_le p)

-- ---- Ints

int_least : {x y x' y' : ℕ} {u : Ty} → int x y ⊑ u → int x' y' ⊑ u → int (min x x') (max y y') ⊑ u
int_least (dn p) q = dn p
int_least (io p q) (io r s) = io (le-min p r) (max-le q s)

pub meet_int_is : (x y x' y' : ℕ) → Meet (int x y) (int x' y') (int (min x x') (max y y'))
meet_int_is x y x' y' = record { left = io (min-le_left x x') (le-max_left y y'); right = io (min-le_right x x') (le-max_right y y'); least = int_least }

-- ---- flags

or_left : (a b : Bool) → a ≤ᵇ (a || b)
or_left true b = on
or_left false b = off

or_right : (a b : Bool) → b ≤ᵇ (a || b)
or_right true true = on
or_right true false = off
or_right false true = on
or_right false false = off

or_least : {a b c : Bool} → a ≤ᵇ c → b ≤ᵇ c → (a || b) ≤ᵇ c
or_least off q = q
or_least on q = on

pub flags_none : Flags [] [] []
flags_none = record { left = stop; right = stop; least = λ p q. p }

flags_least : {a b : Bool} {fs gs hs ks : List Bool} → Flags fs gs hs → a ∷ fs ≤* ks → b ∷ gs ≤* ks → (a || b) ∷ hs ≤* ks
flags_least m (p ⨟ ps) (q ⨟ qs) = or_least p q ⨟ m.least ps qs

pub flags_more : (a b : Bool) {fs gs hs : List Bool} → Flags fs gs hs → Flags (a ∷ fs) (b ∷ gs) ((a || b) ∷ hs)
flags_more a b m = record { left = or_left a b ⨟ m.left; right = or_right a b ⨟ m.right; least = flags_least m }

-- ---- parts

nodes_least : {s s' : Shape} {fs gs hs : List Bool} {ts us vs : Tys} {u : Ty} → Flags fs gs hs → Meet* ts us vs → ((n : ℕ) → s ≢ fre n) → s ≡ s' → node s fs ts ⊑ u → node s' gs us ⊑ u → node s hs vs ⊑ u
nodes_least f m ne e (dn p) q = dn p
nodes_least f m ne e (nd a p) (nd b q) = nd (f.least a b) (m.least p q)
nodes_least f m ne e (nd a p) fw = absurd (ne _ e)
nodes_least f m ne e fw q = absurd (ne _ refl)

pub meet_node : {s : Shape} {fs gs hs : List Bool} {ts us vs : Tys} → ((n : ℕ) → s ≢ fre n) → Flags fs gs hs → Meet* ts us vs → Meet (node s fs ts) (node s gs us) (node s hs vs)
meet_node ne f m = record { left = nd f.left m.left; right = nd f.right m.right; least = nodes_least f m ne refl }

pub meet_ε : Meet* ε ε ε
meet_ε = record { left = end; right = end; least = λ p q. p }

cons_least : {a b c : Ty} {ts us vs ws : Tys} → Meet a b c → Meet* ts us vs → a ◂ ts ⊑* ws → b ◂ us ⊑* ws → c ◂ vs ⊑* ws
cons_least m n (p & ps) (q & qs) = m.least p q & n.least ps qs

pub meet_◂ : {a b c : Ty} {ts us vs : Tys} → Meet a b c → Meet* ts us vs → Meet* (a ◂ ts) (b ◂ us) (c ◂ vs)
meet_◂ m n = record { left = m.left & n.left; right = m.right & n.right; least = cons_least m n }

-- ---- nothing but the bottom of a class above both

-- tuples of other lengths
abbrev pub len : Tys → ℕ
len ε = 0
len (t ◂ ts) = suc (len ts)

⊑*-len : {ts us : Tys} → ts ⊑* us → len ts ≡ len us
⊑*-len end = refl
⊑*-len (p & ps) = ap suc (⊑*-len ps)

tuples_least : {fs gs : List Bool} {ts us : Tys} {u : Ty} → len ts ≢ len us → node tup fs ts ⊑ u → node tup gs us ⊑ u → lo all ⊑ u
tuples_least h (dn p) q = dn p
tuples_least h (nd f p) (nd g q) = absurd (h (⊑*-len p ∙ sym (⊑*-len q)))

pub meet_lengths : {fs gs : List Bool} {ts us : Tys} → len ts ≢ len us → Meet (node tup fs ts) (node tup gs us) (lo all)
meet_lengths h = record { left = dn any; right = dn any; least = tuples_least h }

-- constants that differ: the wider class of the two
cons_apart : {b c : Bool} {n m : ℕ} {fs gs : List Bool} {ts us : Tys} {u : Ty} → con b n ≢ con c m → node (con b n) fs ts ⊑ u → node (con c m) gs us ⊑ u → lo (shape_cls (con c m)) ⊑ u
cons_apart h p (dn q) = dn q
cons_apart h (nd f p) (nd g q) = absurd (h refl)

pub meet_cons : {b c : Bool} {n m : ℕ} {fs gs : List Bool} {ts us : Tys} → con b n ≢ con c m → shape_cls (con c m) ≼ shape_cls (con b n) → Meet (node (con b n) fs ts) (node (con c m) gs us) (lo (shape_cls (con c m)))
meet_cons h p = record { left = dn p; right = dn same; least = cons_apart h }

-- a float of size 32 or -32 with a constant that is not single
b32_least : {n : ℕ} {fs : List Bool} {ts : Tys} {u : Ty} → lo f32 ⊑ u → node (con false n) fs ts ⊑ u → lo f64 ⊑ u
b32_least p (dn q) = dn q
b32_least p (nd f q) = elim p [ ]

pub meet_b32 : {n : ℕ} {fs : List Bool} {ts : Tys} → Meet (lo f32) (node (con false n) fs ts) (lo f64)
meet_b32 = record { left = dn wide; right = dn same; least = b32_least }

f32⋠f64 : f32 ≼ f64 → ⊥
f32⋠f64 = elim [ ]

t32_least : {n : ℕ} {fs : List Bool} {ts : Tys} {u : Ty} → hi f32 ⊑ u → node (con false n) fs ts ⊑ u → lo f64 ⊑ u
t32_least p (dn q) = dn q
t32_least (up p) (nd g q) = absurd (f32⋠f64 p)

pub meet_t32 : {n : ℕ} {fs : List Bool} {ts : Tys} → Meet (hi f32) (node (con false n) fs ts) (lo f64)
meet_t32 = record { left = dn wide; right = dn same; least = t32_least }

-- ---- structs and forward references

-- a struct or forward reference of the name n
pub data Named (n : ℕ) : Shape → Type 0 where
  struct : {ns as₁ : List ℕ} → Named n (str n ns as₁)
  fref : Named n (fre n)

-- what is above it: another of that name, or the bottom of a class
data Above (n : ℕ) : Ty → Type 0 where
  bottom : {c : Cls} → c ≼ stc → Above n (lo c)
  other : {s : Shape} {fs : List Bool} {ts : Tys} → Named n s → Above n (node s fs ts)

above : {n : ℕ} {s : Shape} {fs : List Bool} {ts : Tys} {u : Ty} → Named n s → node s fs ts ⊑ u → Above n u
above struct (dn p) = bottom p
above struct (nd f p) = other struct
above fref (dn p) = bottom p
above fref (nd f p) = other fref
above fref fw = other struct

one_name : {n m : ℕ} {s : Shape} → Named n s → Named m s → n ≡ m
one_name struct struct = refl
one_name fref fref = refl

names_least : {n m : ℕ} {u : Ty} → n ≢ m → Above n u → Above m u → lo stc ⊑ u
names_least h (bottom p) q = dn p
names_least h (other p) (other q) = absurd (h (one_name p q))

named_stc : {n : ℕ} {s : Shape} → Named n s → stc ≼ shape_cls s
named_stc struct = same
named_stc fref = same

pub meet_names : {n m : ℕ} {s s' : Shape} {fs gs : List Bool} {ts us : Tys} → Named n s → Named m s' → n ≢ m → Meet (node s fs ts) (node s' gs us) (lo stc)
meet_names p q h = record { left = dn (named_stc p); right = dn (named_stc q); least = λ a b. names_least h (above p a) (above q b) }

-- structs whose fields differ
fields_least : {n m : ℕ} {ns as₁ ms bs : List ℕ} {fs gs : List Bool} {ts us : Tys} {u : Ty} → str n ns as₁ ≢ str m ms bs → node (str n ns as₁) fs ts ⊑ u → node (str m ms bs) gs us ⊑ u → lo stc ⊑ u
fields_least h (dn p) q = dn p
fields_least h (nd f p) (nd g q) = absurd (h refl)

pub meet_fields_is : {n m : ℕ} {ns as₁ ms bs : List ℕ} {fs gs : List Bool} {ts us : Tys} → str n ns as₁ ≢ str m ms bs → Meet (node (str n ns as₁) fs ts) (node (str m ms bs) gs us) (lo stc)
meet_fields_is h = record { left = dn same; right = dn same; least = fields_least h }

-- ---- other kinds, neither of them Bot or Top. The numbers are document 01's kinds: 1 stands for Bot and Top, 3 for Ctrl and XCtrl, 8 for structs and forward references

abbrev pub cls_kind : Cls → ℕ
cls_kind all = 1
cls_kind ctl = 3
cls_kind f64 = 6
cls_kind f32 = 6
cls_kind stc = 8

abbrev pub shape_kind : Shape → ℕ
shape_kind (con b n) = 6
shape_kind tup = 7
shape_kind ptr = 10
shape_kind (str n ns as₁) = 8
shape_kind (fre n) = 8
shape_kind (mem a) = 11

abbrev pub kind : Ty → ℕ
kind (hi c) = cls_kind c
kind (lo c) = cls_kind c
kind (int x y) = 5
kind (node s fs ts) = shape_kind s

≼_all : {c : Cls} → c ≼ all → cls_kind c ≡ 1
≼_all any = refl
≼_all same = refl

≼_kind : {c d : Cls} → c ≼ d → c ≼ all ⊎ (cls_kind c ≡ cls_kind d)
≼_kind any = inl any
≼_kind same = inr refl
≼_kind wide = inr refl

shape_kind_is : {c : Cls} (s : Shape) → c ≼ shape_cls s → c ≼ all ⊎ (cls_kind c ≡ shape_kind s)
shape_kind_is (con true n) p = ≼_kind p
shape_kind_is (con false n) p = ≼_kind p
shape_kind_is tup p = inl p
shape_kind_is ptr p = inl p
shape_kind_is (str n ns as₁) p = ≼_kind p
shape_kind_is (fre n) p = ≼_kind p
shape_kind_is (mem a) p = inl p

cls_kind_is : {c : Cls} (t : Ty) → c ≼ cls t → c ≼ all ⊎ (cls_kind c ≡ kind t)
cls_kind_is (hi d) p = ≼_kind p
cls_kind_is (lo d) p = ≼_kind p
cls_kind_is (int x y) p = inl p
cls_kind_is (node s fs ts) p = shape_kind_is s p

⊑_kind : {a u : Ty} → a ⊑ u → kind a ≢ 1 → lo all ⊑ u ⊎ (kind a ≡ kind u)
⊑_kind (up {t = t} p) h = elim (cls_kind_is t p) [ inl q ↦ absurd (h (≼_all q)) | inr e ↦ inr e ]
⊑_kind (dn {t = t} p) h = elim (cls_kind_is t p) [ inl q ↦ inl (dn q) | inr e ↦ inr (sym e) ]
⊑_kind (io p q) h = inr refl
⊑_kind (nd f p) h = inr refl
⊑_kind fw h = inr refl

pub meet_kinds : {a b : Ty} → kind a ≢ 1 → kind b ≢ 1 → kind a ≢ kind b → Meet a b (lo all)
meet_kinds {a} {b} h k ne = record { left = dn any; right = dn any; least = λ p q. both (⊑_kind p h) (⊑_kind q k) }
  where
    both : {u : Ty} → lo all ⊑ u ⊎ (kind a ≡ kind u) → lo all ⊑ u ⊎ (kind b ≡ kind u) → lo all ⊑ u
    both (inl p) q = p
    both (inr e) (inl q) = q
    both (inr e) (inr f) = absurd (ne (e ∙ sym f))
