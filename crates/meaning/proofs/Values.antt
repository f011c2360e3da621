-- What values say in a tree: the ends of an Int in their order, flags, floats. Assumes nothing.
use mathlib.Core.Path.{◌≡◌, refl, sym, ◌∙◌}
use mathlib.Core.Logic.{◌≢◌}
use mathlib.Core.Bool.{Bool, true, false, cond, not, ◌&&◌, ◌||◌, true≢false}
use mathlib.Core.List.{List, [], ◌∷◌}
use Prim.Native.Nat.{ℕ, zero, suc, ◌+◌, ◌-◌, ◌*◌, ◌%◌, ◌^◌, ◌≤◌, ◌<◌, min, max}
use native.Mathlib.Omega.{arith}
use borrow.Author.Tests.{ltb-true, ltb-false, lt-ltb, le-ltb, eqb-true, eqb-false}
use lib.Dec.{eqb, ltb}
use lib.IntN.{pos, negsuc}
use lib.Ieee.{binary64, of_bits}
use mir.Syntax.{w64}
use mir.Val.{to_z}
use Rattle.structs.proofs.Columns.{half}
use Rattle.rules.specs.Column.{◌⇒◌∣◌}
use Rattle.type_integer.specs.Signed.{less, smaller, larger}
use Rattle.type_float.specs.Float.{size_from, is_size_word, reading_of}
use Rattle.type_float.specs.Single.{is_single}
use Rattle.type_float.specs.declared.Reading.{Reading}
use Rattle.type_float.proofs.Size.{each_word}
use Rattle.float_meet.specs.FloatRule.{float_rule}
use Rattle.float_meet.specs.declared.FloatMeet.{FloatMeet}
use Rattle.float_meet.specs.declared.FloatMeet.TheVariants.{First, Second, Single, Double}
use Rattle.trees.proofs.Tree.{◌≼◌, f64, f32, same, wide, con, shape_cls, Ty, hi, lo, node, ε, up, dn}
use Rattle.trees.proofs.Meet.{Meet, meet_le, meet_ge, meet_sym, meet_cons, meet_b32, meet_t32}
use Rattle.meaning.proofs.View.{View, vhi, vlo, vnode, build}

-- ---- a fact of a test's outcome, from each branch with what the test said

module _ {A : Type 0} (P : A → Type 0) where
  pub pick : (b : Bool) {x y : A} → (b ≡ true → P x) → (b ≡ false → P y) → P (b ⇒ x ∣ y)
  pick true f g = f refl
  pick false f g = g refl

  pub pick_cond : (b : Bool) {x y : A} → (b ≡ true → P x) → (b ≡ false → P y) → P (cond b x y)
  pick_cond true f g = f refl
  pick_cond false f g = g refl

pub clash : {b : Bool} {P : Type 0} → b ≡ true → b ≡ false → P
clash e f = absurd (true≢false (sym e ∙ f))

-- ---- Ints: two's complement words in the order of their numbers

unfoldable pub key : ℕ → ℕ
key w = (w + 0x8000_0000_0000_0000) % 0x1_0000_0000_0000_0000

pub key_key : (w : ℕ) → w < 2 ^ 64 → key (key w) ≡ w
unfolding key
key_key w l = omega arith

pub key_most : (w : ℕ) → key w ≤ 0xffff_ffff_ffff_ffff
unfolding key
key_most w = omega arith

low_key : (w : ℕ) → w < 2 ^ 63 → key w ≡ w + 0x8000_0000_0000_0000
unfolding key
low_key w l = omega arith

high_key : (w : ℕ) → 2 ^ 63 ≤ w → w < 2 ^ 64 → key w ≡ w - 0x8000_0000_0000_0000
unfolding key
high_key w l h = omega arith

same_test : (a b c d : ℕ) → (a < b → c < d) → (b ≤ a → d ≤ c) → ltb a b ≡ ltb c d
same_test a b c d f g = go (ltb a b) refl
  where
    go : (t : Bool) → ltb a b ≡ t → t ≡ ltb c d
    go true e = sym (lt-ltb c d (f (ltb-true a b e)))
    go false e = sym (le-ltb c d (g (ltb-false a b e)))

low_is : (w : ℕ) → w < 2 ^ 63 → to_z w64 w ≡ pos w
low_is w l = rw (lt-ltb w (2 ^ 63) l)

high_is : (w : ℕ) → 2 ^ 63 ≤ w → to_z w64 w ≡ negsuc (2 ^ 64 - suc w)
high_is w l = rw (le-ltb w (2 ^ 63) l)

module _ (a b : ℕ) (la : a < 2 ^ 64) (lb : b < 2 ^ 64) where
  pub less_key : less a b ≡ ltb (key a) (key b)
  less_key = go (ltb a (2 ^ 63)) refl (ltb b (2 ^ 63)) refl
    where
      go : (s : Bool) → ltb a (2 ^ 63) ≡ s → (t : Bool) → ltb b (2 ^ 63) ≡ t → less a b ≡ ltb (key a) (key b)
      go true p true q =
          let x = ltb-true a (2 ^ 63) p in
          let y = ltb-true b (2 ^ 63) q in
          rw (low_is a x, low_is b y, low_key a x, low_key b y) (same_test a b (a + 0x8000_0000_0000_0000) (b + 0x8000_0000_0000_0000) (λ h. omega arith) (λ h. omega arith))
      go true p false q =
          let x = ltb-true a (2 ^ 63) p in
          let y = ltb-false b (2 ^ 63) q in
          rw (low_is a x, high_is b y, low_key a x, high_key b y lb) (sym (le-ltb (a + 0x8000_0000_0000_0000) (b - 0x8000_0000_0000_0000) (omega arith)))
      go false p true q =
          let x = ltb-false a (2 ^ 63) p in
          let y = ltb-true b (2 ^ 63) q in
          rw (high_is a x, low_is b y, high_key a x la, low_key b y) (sym (lt-ltb (a - 0x8000_0000_0000_0000) (b + 0x8000_0000_0000_0000) (omega arith)))
      go false p false q =
          let x = ltb-false a (2 ^ 63) p in
          let y = ltb-false b (2 ^ 63) q in
          rw (high_is a x, high_is b y, high_key a x la, high_key b y lb) (same_test (2 ^ 64 - suc b) (2 ^ 64 - suc a) (a - 0x8000_0000_0000_0000) (b - 0x8000_0000_0000_0000) (λ h. omega arith) (λ h. omega arith))

pub smaller_key : (a b : ℕ) → a < 2 ^ 64 → b < 2 ^ 64 → key (smaller a b) ≡ min (key a) (key b)
smaller_key a b la lb = rw (less_key b a lb la) (go (ltb (key b) (key a)) refl)
  where
    go : (t : Bool) → ltb (key b) (key a) ≡ t → key (cond t b a) ≡ min (key a) (key b)
    go true e = omega (arith, ltb-true (key b) (key a) e)
    go false e = omega (arith, ltb-false (key b) (key a) e)

pub larger_key : (a b : ℕ) → a < 2 ^ 64 → b < 2 ^ 64 → key (larger a b) ≡ max (key a) (key b)
larger_key a b la lb = rw (less_key a b la lb) (go (ltb (key a) (key b)) refl)
  where
    go : (t : Bool) → ltb (key a) (key b) ≡ t → key (cond t b a) ≡ max (key a) (key b)
    go true e = omega (arith, ltb-true (key a) (key b) e)
    go false e = omega (arith, ltb-false (key a) (key b) e)

-- ---- flags

-- of a word 2 × alias + final, or of a nil
abbrev pub flag : ℕ → Bool
flag v = eqb (v % 2) 1

abbrev pub flags : List ℕ → List Bool
flags [] = []
flags (v ∷ vs) = flag v ∷ flags vs

pub flag_either : (x y : ℕ) → flag (max (x % 2) (y % 2)) ≡ (flag x || flag y)
flag_either x y = go (eqb (x % 2) 1) refl (eqb (y % 2) 1) refl
  where
    go : (s : Bool) → eqb (x % 2) 1 ≡ s → (t : Bool) → eqb (y % 2) 1 ≡ t → eqb (max (x % 2) (y % 2) % 2) 1 ≡ (s || t)
    go true p t q = let a = eqb-true (x % 2) 1 p in let e : max (x % 2) (y % 2) % 2 ≡ 1 = omega arith in rw e
    go false p true q = let a = eqb-true (y % 2) 1 q in let e : max (x % 2) (y % 2) % 2 ≡ 1 = omega arith in rw e
    go false p false q =
        let a : (x % 2 ≡ 1 → ⊥) = eqb-false (x % 2) 1 p in
        let b : (y % 2 ≡ 1 → ⊥) = eqb-false (y % 2) 1 q in
        let e : max (x % 2) (y % 2) % 2 ≡ 0 = omega arith in
        rw e

pub flag_max : (x y : ℕ) → x ≤ 1 → y ≤ 1 → flag (max x y) ≡ (flag x || flag y)
flag_max x y l m = let e : max x y ≡ max (x % 2) (y % 2) = omega arith in rw e (flag_either x y)

pub flag_not : (x : ℕ) → flag (1 - x % 2) ≡ not (flag x)
flag_not x = go (eqb (x % 2) 1) refl
  where
    go : (t : Bool) → eqb (x % 2) 1 ≡ t → eqb ((1 - x % 2) % 2) 1 ≡ not t
    go true p = let q = eqb-true (x % 2) 1 p in let e : (1 - x % 2) % 2 ≡ 0 = omega arith in rw e
    go false p = let q : (x % 2 ≡ 1 → ⊥) = eqb-false (x % 2) 1 p in let e : (1 - x % 2) % 2 ≡ 1 = omega arith in rw e

pub flag_rest : (x : ℕ) → flag (x % 2) ≡ flag x
flag_rest x = let e : x % 2 % 2 ≡ x % 2 = omega arith in rw e

-- the word of an alias and a flag
abbrev pub bit : Bool → ℕ
bit true = 1
bit false = 0

pub bit_flag : (v : ℕ) → 2 * half v + bit (flag v) ≡ v
bit_flag v = go (eqb (v % 2) 1) refl
  where
    go : (t : Bool) → eqb (v % 2) 1 ≡ t → 2 * half v + bit t ≡ v
    go true p = omega (arith, eqb-true (v % 2) 1 p)
    go false p = let q : (v % 2 ≡ 1 → ⊥) = eqb-false (v % 2) 1 p in omega arith

pub flag_bit : (v : ℕ) → v ≤ 1 → bit (flag v) ≡ v
flag_bit zero l = refl
flag_bit (suc zero) l = refl
flag_bit (suc (suc n)) l = absurd (omega arith)

-- ---- floats: by the word of the size and the constant's bits

abbrev pub float_view : ℕ → ℕ → View
float_view s n = eqb s 0 ⇒ vhi f64 ∣ eqb s 32 ⇒ vhi f32 ∣ eqb s 96 ⇒ vlo f32 ∣ eqb s 128 ⇒ vlo f64 ∣ vnode (con (is_single n) n) [] []

abbrev pub float_tree : ℕ → ℕ → Ty
float_tree s n = eqb s 0 ⇒ hi f64 ∣ eqb s 32 ⇒ hi f32 ∣ eqb s 96 ⇒ lo f32 ∣ eqb s 128 ⇒ lo f64 ∣ node (con (is_single n) n) [] ε

abbrev pub read_at : ℕ → ℕ → Reading
read_at s n = reading_of (record { sz = size_from s; con = of_bits binary64 n })

abbrev pub float_answer : Ty → Ty → FloatMeet → Ty
float_answer t u First = t
float_answer t u Second = u
float_answer t u Single = lo f32
float_answer t u Double = lo f64

-- within a class, whether single or not
pub in_64 : (b : Bool) (n : ℕ) → f64 ≼ shape_cls (con b n)
in_64 true n = wide
in_64 false n = same

-- two constants that differ
constants : (p q : Bool) (n m : ℕ) → n ≢ m → Meet (node (con p n) [] ε) (node (con q m) [] ε) (float_answer (node (con p n) [] ε) (node (con q m) [] ε) (p && q ⇒ Single ∣ Double))
constants true true n m h = meet_cons (λ e. h cc) same
constants true false n m h = meet_cons (λ e. h cc) wide
constants false true n m h = meet_sym (meet_cons (λ e. h (let z : n ≡ m = cc in z)) wide)
constants false false n m h = meet_cons (λ e. h cc) same

module _ (n m : ℕ) where
  abbrev p : Bool
  p = is_single n

  abbrev q : Bool
  q = is_single m

  abbrev Right : ℕ → ℕ → Type 0
  Right s t = Meet (float_tree s n) (float_tree t m) (float_answer (float_tree s n) (float_tree t m) (float_rule (read_at s n) (read_at t m)))

  const_32 : (b : Bool) → b ≡ p → Right 64 32
  unfolding float_rule is_single
  const_32 true e = rw (← e) (meet_ge (up same))
  const_32 false e = rw (← e) (meet_sym meet_t32)

  const_96 : (b : Bool) → b ≡ p → Right 64 96
  unfolding float_rule is_single
  const_96 true e = rw (← e) (meet_le (dn same))
  const_96 false e = rw (← e) (meet_sym meet_b32)

  32_const : (b : Bool) → b ≡ q → Right 32 64
  unfolding float_rule is_single
  32_const true e = rw (← e) (meet_le (up same))
  32_const false e = rw (← e) meet_t32

  96_const : (b : Bool) → b ≡ q → Right 96 64
  unfolding float_rule is_single
  96_const true e = rw (← e) (meet_ge (dn same))
  96_const false e = rw (← e) meet_b32

  both_const : (b c : Bool) → b ≡ p → c ≡ q → n ≢ m → Right 64 64
  unfolding float_rule is_single
  both_const true true e f apart = rw (← e, ← f) (constants true true n m apart)
  both_const true false e f apart = rw (← e, ← f) (constants true false n m apart)
  both_const false true e f apart = rw (← e, ← f) (constants false true n m apart)
  both_const false false e f apart = rw (← e, ← f) (constants false false n m apart)

  -- the float rules, for each two sizes; two constants are not the same one
  pub float_right : (s t : ℕ) → is_size_word s ≡ true → is_size_word t ≡ true → (s ≡ 64 → t ≡ 64 → n ≢ m) → Right s t
  unfolding float_rule is_single
  float_right s t es et =
      each_word (λ x. (x ≡ 64 → t ≡ 64 → n ≢ m) → Right x t)
      (λ h. each_word (Right 0) (meet_ge (up same)) (meet_le (up wide)) (meet_le (up (in_64 q m))) (meet_le (up wide)) (meet_le (up same)) t et)
      (λ h. each_word (Right 32) (meet_ge (up wide)) (meet_ge (up same)) (32_const q refl) (meet_le (up same)) (meet_le (dn wide)) t et)
      (λ h. each_word (λ y. (y ≡ 64 → n ≢ m) → Right 64 y) (λ k. meet_ge (up (in_64 p n))) (λ k. const_32 p refl) (λ k. both_const p q refl refl (k refl)) (λ k. const_96 p refl) (λ k. meet_le (dn (in_64 p n))) t et (h refl))
      (λ h. each_word (Right 96) (meet_ge (up wide)) (meet_ge (up same)) (96_const q refl) (meet_le (dn same)) (meet_le (dn wide)) t et)
      (λ h. each_word (Right 128) (meet_ge (up same)) (meet_ge (dn wide)) (meet_ge (dn (in_64 q m))) (meet_ge (dn wide)) (meet_le (dn same)) t et)
      s es

pub build_float : (f : ℕ → Ty) (s n : ℕ) → build f (float_view s n) ≡ float_tree s n
build_float f s n = go (eqb s 0) (eqb s 32) (eqb s 96) (eqb s 128)
  where
    go : (a b c d : Bool) → build f (a ⇒ vhi f64 ∣ b ⇒ vhi f32 ∣ c ⇒ vlo f32 ∣ d ⇒ vlo f64 ∣ vnode (con (is_single n) n) [] []) ≡ (a ⇒ hi f64 ∣ b ⇒ hi f32 ∣ c ⇒ lo f32 ∣ d ⇒ lo f64 ∣ node (con (is_single n) n) [] ε)
    go true b c d = refl
    go false true c d = refl
    go false false true d = refl
    go false false false true = refl
    go false false false false = refl
