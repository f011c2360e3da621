-- Types as trees, and the order in which meet is the least upper bound. Assumes nothing.
--
-- Which way is up: t ⊑ s is t isa s, and s is above t; Bot is above all types and Top below all. The names hi and lo are document 01's way to speak (a high range, Top and Bot): lo is above hi.
-- A class is a group of types between two, hi and lo: all, Top and Bot; ctl, XCtrl and Ctrl; f64 and f32, the float sizes -64 and 64, -32 and 32;
-- stc, $TOP and $BOT. Other types are Ints, by the keys of their ends, and nodes: a shape, flags (a pointer's nil, the finals of a struct's fields), and parts.
use mathlib.Core.Path.{◌≡◌, refl, ap, ap₂}
use mathlib.Core.Logic.{◌≢◌, ◌⊎◌, inl, inr}
use mathlib.Core.Bool.{Bool, true, false, true≢false}
use mathlib.Core.List.{List, [], ◌∷◌}
use Prim.Native.Nat.{ℕ, ◌≤◌}
use native.Mathlib.Nat.{le_refl, le_trans, le_antisymm}
use Rattle.trees.proofs.Order.{Order}

infix 40 ◌≼◌
infix 40 ◌≤ᵇ◌
infix 40 ◌≤*◌
infix 40 ◌⊑◌
infix 40 ◌⊑*◌
infixr 60 ◌◂◌
infixr 60 ◌&◌
infixr 60 ◌⨟◌
pub data Cls : Type 0 where
  all ctl f64 f32 stc : Cls

-- one class within the other
pub data ◌≼◌ : Cls → Cls → Type 0 where
  any : {d : Cls} → all ≼ d
  same : {c : Cls} → c ≼ c
  wide : f64 ≼ f32

-- con: a float constant, single or not, by its bits; str: a struct, by the handles of its name and of its fields' names, and their aliases; fre: a forward reference, by
-- its name's handle; mem: a memory, by its alias
pub data Shape : Type 0 where
  con : Bool → ℕ → Shape
  tup ptr : Shape
  str : ℕ → List ℕ → List ℕ → Shape
  fre : ℕ → Shape
  mem : ℕ → Shape

mutual
  pub data Ty : Type 0 where
    hi lo : Cls → Ty
    int : ℕ → ℕ → Ty
    node : Shape → List Bool → Tys → Ty

  pub data Tys : Type 0 where
    ε : Tys
    ◌◂◌ : Ty → Tys → Tys

abbrev pub shape_cls : Shape → Cls
shape_cls (con true n) = f32
shape_cls (con false n) = f64
shape_cls tup = all
shape_cls ptr = all
shape_cls (str n ns as₁) = stc
shape_cls (fre n) = stc
shape_cls (mem a) = all

abbrev pub cls : Ty → Cls
cls (hi c) = c
cls (lo c) = c
cls (int x y) = all
cls (node s fs ts) = shape_cls s

-- flags: no before yes
pub data ◌≤ᵇ◌ : Bool → Bool → Type 0 where
  off : {b : Bool} → false ≤ᵇ b
  on : true ≤ᵇ true

pub data ◌≤*◌ : List Bool → List Bool → Type 0 where
  stop : [] ≤* []
  ◌⨟◌ : {a b : Bool} {as₁ bs : List Bool} → a ≤ᵇ b → as₁ ≤* bs → a ∷ as₁ ≤* b ∷ bs

-- up, dn: a class's highest is below, and its lowest above, what is within it; io: the wider range is above; nd: by flags and parts; fw: a forward reference is below its namesakes
mutual
  pub data ◌⊑◌ : Ty → Ty → Type 0 where
    up : {c : Cls} {t : Ty} → c ≼ cls t → hi c ⊑ t
    dn : {c : Cls} {t : Ty} → c ≼ cls t → t ⊑ lo c
    io : {x y x' y' : ℕ} → x' ≤ x → y ≤ y' → int x y ⊑ int x' y'
    nd : {s : Shape} {fs gs : List Bool} {ts us : Tys} → fs ≤* gs → ts ⊑* us → node s fs ts ⊑ node s gs us
    fw : {n : ℕ} {ns as₁ : List ℕ} {gs : List Bool} {us : Tys} → node (fre n) [] ε ⊑ node (str n ns as₁) gs us

  pub data ◌⊑*◌ : Tys → Tys → Type 0 where
    end : ε ⊑* ε
    ◌&◌ : {t u : Ty} {ts us : Tys} → t ⊑ u → ts ⊑* us → t ◂ ts ⊑* u ◂ us

-- ---- classes

pub ≼_trans : {a b c : Cls} → a ≼ b → b ≼ c → a ≼ c
≼_trans any q = any
≼_trans same q = q
≼_trans wide same = wide

pub ≼_antisym : {a b : Cls} → a ≼ b → b ≼ a → a ≡ b
≼_antisym any any = refl
≼_antisym any same = refl
≼_antisym same q = refl
≼_antisym wide q = elim q [ ]

pub ≼_linear : {a b c : Cls} → a ≼ c → b ≼ c → a ≼ b ⊎ b ≼ a
≼_linear any q = inl any
≼_linear same q = inr q
≼_linear wide any = inr any
≼_linear wide same = inl wide
≼_linear wide wide = inl same

-- ---- flags

pub ≤ᵇ_refl : (b : Bool) → b ≤ᵇ b
≤ᵇ_refl true = on
≤ᵇ_refl false = off

pub ≤ᵇ_true : (b : Bool) → b ≤ᵇ true
≤ᵇ_true true = on
≤ᵇ_true false = off

≤ᵇ_trans : {a b c : Bool} → a ≤ᵇ b → b ≤ᵇ c → a ≤ᵇ c
≤ᵇ_trans off q = off
≤ᵇ_trans on on = on

≤ᵇ_antisym : {a b : Bool} → a ≤ᵇ b → b ≤ᵇ a → a ≡ b
≤ᵇ_antisym off off = refl
≤ᵇ_antisym on on = refl

pub ≤*-refl : (fs : List Bool) → fs ≤* fs
≤*-refl [] = stop
≤*-refl (f ∷ fs) = ≤ᵇ_refl f ⨟ ≤*-refl fs

≤*-trans : {fs gs hs : List Bool} → fs ≤* gs → gs ≤* hs → fs ≤* hs
≤*-trans stop stop = stop
≤*-trans (p ⨟ ps) (q ⨟ qs) = ≤ᵇ_trans p q ⨟ ≤*-trans ps qs

≤*-antisym : {fs gs : List Bool} → fs ≤* gs → gs ≤* fs → fs ≡ gs
≤*-antisym stop stop = refl
≤*-antisym (p ⨟ ps) (q ⨟ qs) = ap₂ ◌∷◌ (≤ᵇ_antisym p q) (≤*-antisym ps qs)

-- ---- types

mutual
  pub ⊑_refl : (t : Ty) → t ⊑ t
  ⊑_refl (hi c) = up same
  ⊑_refl (lo c) = dn same
  ⊑_refl (int x y) = io (le_refl x) (le_refl y)
  ⊑_refl (node s fs ts) = nd (≤*-refl fs) (⊑*-refl ts)

  pub ⊑*-refl : (ts : Tys) → ts ⊑* ts
  ⊑*-refl ε = end
  ⊑*-refl (t ◂ ts) = ⊑_refl t & ⊑*-refl ts

hi_lo : {a b c : Cls} → a ≼ c → b ≼ c → hi a ⊑ lo b
hi_lo p q = elim (≼_linear p q) [ inl h ↦ up h | inr h ↦ dn h ]

mutual
  pub ⊑_trans : {a b c : Ty} → a ⊑ b → b ⊑ c → a ⊑ c
  ⊑_trans (up p) (up q) = up (≼_trans p q)
  ⊑_trans (up p) (dn q) = hi_lo p q
  ⊑_trans (up p) (io q r) = up p
  ⊑_trans (up p) (nd q r) = up p
  ⊑_trans (up p) fw = up p
  ⊑_trans (dn p) (dn q) = dn (≼_trans q p)
  ⊑_trans (io p q) (dn r) = dn r
  ⊑_trans (io p q) (io r s) = io (le_trans r p) (le_trans q s)
  ⊑_trans (nd f p) (dn q) = dn q
  ⊑_trans (nd f p) (nd g q) = nd (≤*-trans f g) (⊑*-trans p q)
  ⊑_trans (nd stop end) fw = fw
  ⊑_trans fw (dn q) = dn q
  ⊑_trans fw (nd g q) = fw

  pub ⊑*-trans : {a b c : Tys} → a ⊑* b → b ⊑* c → a ⊑* c
  ⊑*-trans end end = end
  ⊑*-trans (p & ps) (q & qs) = ⊑_trans p q & ⊑*-trans ps qs

-- no forward reference has the shape of a struct
fre≢str : {n m : ℕ} {ns as₁ : List ℕ} → fre n ≢ str m ns as₁
fre≢str e = true≢false (ap elim [ con b n ↦ false | tup ↦ false | ptr ↦ false | str n ns as₁ ↦ false | fre n ↦ true | mem a ↦ false ] e)

-- what lies below, of one shape, lies so by flags and parts
pub nodes_below : {s s' : Shape} {fs gs : List Bool} {ts us : Tys} → node s fs ts ⊑ node s' gs us → s ≡ s' → (fs ≤* gs) × (ts ⊑* us)
nodes_below (nd f p) e = (f, p)
nodes_below fw e = absurd (fre≢str e)

mutual
  pub ⊑_antisym : {a b : Ty} → a ⊑ b → b ⊑ a → a ≡ b
  ⊑_antisym (up p) (up q) = ap hi (≼_antisym p q)
  ⊑_antisym (dn p) (dn q) = ap lo (≼_antisym q p)
  ⊑_antisym (io p q) (io r s) = ap₂ int (le_antisymm r p) (le_antisymm q s)
  ⊑_antisym (nd {s = s} f p) q = ap₂ (node s) (≤*-antisym f (nodes_below q refl).0) (⊑*-antisym p (nodes_below q refl).1)
  ⊑_antisym fw q = elim q [ ]

  pub ⊑*-antisym : {a b : Tys} → a ⊑* b → b ⊑* a → a ≡ b
  ⊑*-antisym end end = refl
  ⊑*-antisym (p & ps) (q & qs) = ap₂ ◌◂◌ (⊑_antisym p q) (⊑*-antisym ps qs)

pub ⊑_order : Order ◌⊑◌
⊑_order = record { rfl = ⊑_refl; trn = ⊑_trans; ant = ⊑_antisym }
