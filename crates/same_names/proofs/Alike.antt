-- Names and fields that are the same: what the loops know. `u` is the used words. Assumes nothing.
use mathlib.Core.Path.{◌≡◌, refl, sym, ◌∙◌}
use mathlib.Core.Bool.{Bool, true, false, cond, not, ◌&&◌}
use mathlib.Core.List.{List}
use Prim.Native.Nat.{ℕ, zero, suc, ◌+◌, ◌-◌, ◌*◌, ◌/◌, ◌%◌, ◌^◌, ◌≤◌, ◌<◌}
use native.Mathlib.Omega.{arith}
use borrow.Author.Tests.{eq-eqb, ne_eqb, ltb-true, not-true, not-false}
use lib.ListN.{get_or}
use lib.Dec.{eqb, leb, ltb}
use Rattle.words.specs.Words.{words_after, size_of}
use Rattle.wellformed.specs.Entry.{all}
use Rattle.words.specs.Columns.{every}
use Rattle.wellformed.proofs.Bools.{and_left, and_right}
use Rattle.meet_rules.specs.Names.{same_words, same_name, same_fields}

down : (n i : ℕ) → i < n → n - i ≡ suc (n - (i + 1))
down n i h = omega arith

-- ---- words

module _ (u : List ℕ) (n p q i : ℕ) (left : same_words u n p q ≡ same_words u (n - i) (p + i) (q + i)) where
  one : i < n → same_words u n p q ≡ (eqb (get_or u (p + i) 0) (get_or u (q + i) 0) && same_words u (n - (i + 1)) (p + (i + 1)) (q + (i + 1)))
  unfolding same_words
  one h =
      let a : p + i + 1 ≡ p + (i + 1) = omega arith in
      let b : q + i + 1 ≡ q + (i + 1) = omega arith in
      left ∙ rw (down n i h, a, b)

  module _ (h : i < n) (x y : ℕ) (ex : x ≡ get_or u (p + i) 0) (ey : y ≡ get_or u (q + i) 0) where
    pub words_other : (x ≡ y → ⊥) → false ≡ same_words u n p q
    words_other ne = sym (one h ∙ rw (← ex, ← ey, ne_eqb x y ne))

    pub words_more : x ≡ y → same_words u n p q ≡ same_words u (n - (i + 1)) (p + (i + 1)) (q + (i + 1))
    words_more e = one h ∙ rw (← ex, ← ey, eq-eqb x y e)

  pub words_end : n ≤ i → true ≡ same_words u n p q
  unfolding same_words
  words_end h = let z : n - i ≡ 0 = omega arith in sym (left ∙ rw z)

-- words are the same as themselves
pub same_itself : (u : List ℕ) (n p : ℕ) → same_words u n p p ≡ true
unfolding same_words
same_itself u zero p = refl
same_itself u (suc n) p = rw (eq-eqb (get_or u p 0) (get_or u p 0) refl, same_itself u n (p + 1))

-- ---- names

cond_le : (b : Bool) {x y m : ℕ} → x ≤ m → y ≤ m → cond b x y ≤ m
cond_le true h k = h
cond_le false h k = k

-- no entry's size is near the end of the numbers
pub size_small : (w : ℕ) → w < 2 ^ 64 → size_of w ≤ 2 ^ 60
unfolding size_of words_after
size_small w h =
    let after : words_after (w % 256) (w / 65536) ≤ 2 ^ 59 =
    cond_le (eqb (w % 256) 0) (omega arith)
    (cond_le (leb (w % 256) 4) (omega arith)
    (cond_le (leb (w % 256) 6) (omega arith)
    (cond_le (eqb (w % 256) 7) (omega arith)
    (cond_le (eqb (w % 256) 8) (omega arith)
    (cond_le (eqb (w % 256) 9) (omega arith)
    (cond_le (leb (w % 256) 11) (omega arith) (omega arith))))))) in
    omega (arith, after)

module _ (u : List ℕ) (p q : ℕ) where
  pub name_itself : p ≡ q → true ≡ same_name u p q
  name_itself e = rw (← e) (sym (same_itself u (size_of (get_or u p 0)) p))

  pub name_words_is : (x : ℕ) → x ≡ get_or u p 0 → (n : ℕ) → n ≡ size_of x → (t : Bool) → t ≡ same_words u n p q → t ≡ same_name u p q
  name_words_is x ex n en t h = h ∙ rw (en, ex)

-- ---- fields

-- words in a store's words
abbrev pub Low : List ℕ → Type 0
Low l = all (λ x. ltb x 1048576) l ≡ true

module _ (u : List ℕ) (n p : ℕ) where
  module _ (i : ℕ) (low : Low (every 3 (n - i) (p + 3 * i) u)) (h : i < n) where
    abbrev this : Bool
    this = ltb (get_or u (p + 3 * i) 0) 1048576

    abbrev rest : Bool
    rest = all (λ x. ltb x 1048576) (every 3 (n - (i + 1)) (p + 3 * (i + 1)) u)

    both : (this && rest) ≡ true
    unfolding every all
    both = let a : p + 3 * i + 3 ≡ p + 3 * (i + 1) = omega arith in rw (down n i h, a) at low

    pub low_this : (x : ℕ) → x ≡ get_or u (p + 3 * i) 0 → x ≤ 2 ^ 60
    low_this x e = omega (arith, e, ltb-true (get_or u (p + 3 * i) 0) 1048576 (and_left this rest both))

    pub low_more : Low (every 3 (n - (i + 1)) (p + 3 * (i + 1)) u)
    low_more = and_right this rest both

module _ (u : List ℕ) (n p q i : ℕ) (left : same_fields u n p q ≡ same_fields u (n - i) (p + 3 * i) (q + 3 * i)) where
  field : i < n
      → same_fields u n p q ≡ (same_name u (get_or u (p + 3 * i) 0) (get_or u (q + 3 * i) 0) && eqb (get_or u (p + 3 * i + 2) 0 / 2) (get_or u (q + 3 * i + 2) 0 / 2) && same_fields u (n - (i + 1)) (p + 3 * (i + 1)) (q + 3 * (i + 1)))
  unfolding same_fields
  field h =
      let a : p + 3 * i + 3 ≡ p + 3 * (i + 1) = omega arith in
      let b : q + 3 * i + 3 ≡ q + 3 * (i + 1) = omega arith in
      left ∙ rw (down n i h, a, b)

  module _ (h : i < n) (x y : ℕ) (ex : x ≡ get_or u (p + 3 * i) 0) (ey : y ≡ get_or u (q + 3 * i) 0) (t : Bool) (et : t ≡ same_name u x y) where
    named : same_name u (get_or u (p + 3 * i) 0) (get_or u (q + 3 * i) 0) ≡ t
    named = rw (← ex, ← ey) (sym et)

    pub fields_name : not t ≡ true → false ≡ same_fields u n p q
    fields_name z = sym (field h ∙ rw (named ∙ not-true t z))

    module _ (s : not t ≡ false) (f g : ℕ) (ef : f ≡ get_or u (p + 3 * i + 2) 0) (eg : g ≡ get_or u (q + 3 * i + 2) 0) where
      pub fields_alias : (f / 2 ≡ g / 2 → ⊥) → false ≡ same_fields u n p q
      fields_alias z = sym (field h ∙ rw (named ∙ not-false t s, ← ef, ← eg, ne_eqb (f / 2) (g / 2) z))

      pub fields_more : f / 2 ≡ g / 2 → same_fields u n p q ≡ same_fields u (n - (i + 1)) (p + 3 * (i + 1)) (q + 3 * (i + 1))
      fields_more z = field h ∙ rw (named ∙ not-false t s, ← ef, ← eg, eq-eqb (f / 2) (g / 2) z)

  pub fields_end : n ≤ i → true ≡ same_fields u n p q
  unfolding same_fields
  fields_end h = let z : n - i ≡ 0 = omega arith in sym (left ∙ rw z)
