-- Facts about digits that the proofs of `values` cite.
use Rattle.std.proofs.Common.{◌≡◌, refl, suc, sym, ap, ◌∙◌, Bool, true, false, List, [], ◌∷◌, ℕ, ◌+◌, ◌-◌, ◌*◌, ◌%◌, ◌^◌, ◌≤◌, ◌<◌, length, get_or, take, drop, cond, length-drop, arith, add-one, drop-cons, le_refl, le_trans, mul-le-mul_left}
use Rattle.std.specs.Prelude.{◌&&◌, Option, Some, None, eqb, leb}
use Rattle.std.proofs.lemmas.Bool.Decides.{nat_tests}
use Rattle.std.specs.Char.{digit_value}
use lib.ListN.{drop_of_length-le}
use lib.Seq.{take_all}
use borrow.Author.Tests.{le-leb, lt-leb, lt-ltb, le-ltb, eq-eqb, ne_eqb, eqb-true}
use Rattle.script.specs.Numbers.{between, digit_of, all_digits, value_from, summed, unsigned_of, negative_of, number_of}

-- what the library says of a byte as a digit, of a base of at most 16
pub digit_is : (b : ℕ) → digit_value b < 16 → digit_of b ≡ digit_value b
unfolding digit_of
digit_is b h = grind (arith, nat_tests)

pub digit_none : (base b : ℕ) → base ≤ 16 → base ≤ digit_value b → base ≤ digit_of b
unfolding digit_of
digit_none base b low h = grind (arith, nat_tests)

-- the digit that is written for a number says it: below 10, and from there on
pub low_digit : (d : ℕ) → d < 10 → digit_of (48 + d) ≡ d
unfolding digit_of
low_digit d h = grind (arith, nat_tests)

pub high_digit : (d : ℕ) → 10 ≤ d → d < 16 → digit_of (87 + d) ≡ d
unfolding digit_of
high_digit d h k = grind (arith, nat_tests)

inside : (low high b : ℕ) → low ≤ b → b ≤ high → between low high b ≡ true
inside low high b h k = rw (le-leb low b h, le-leb b high k)

under : (low high b : ℕ) → b < low → between low high b ≡ false
under low high b h = rw (lt-leb low b h)

and-false : (t : Bool) → (t && false) ≡ false
and-false true = refl
and-false false = refl

over : (low high b : ℕ) → high < b → between low high b ≡ false
over low high b h = rw (lt-leb b high h) (and-false (leb low b))

-- digits that follow make a value no smaller
grows : (base sum : ℕ) (bs : List ℕ) → 0 < base → sum ≤ value_from base sum bs
unfolding value_from
grows base sum [] pos = le_refl sum
grows base sum (b ∷ bs) pos =
    let more : sum * 1 ≤ sum * base = mul-le-mul_left sum pos in
    let next : sum * base + digit_of b ≤ value_from base (sum * base + digit_of b) bs = grows base (sum * base + digit_of b) bs pos in
    omega arith

-- the first of the bytes is no digit, makes the value too large, or is taken
module _ (base sum b : ℕ) (bs : List ℕ) where
  first_other : base ≤ digit_of b → summed base sum (b ∷ bs) ≡ None
  unfolding summed all_digits
  first_other k = rw (le-ltb (digit_of b) base k)

  first_large : 0 < base → 2 ^ 64 ≤ sum * base + digit_of b → summed base sum (b ∷ bs) ≡ None
  unfolding summed value_from
  first_large pos big =
      let end : 2 ^ 64 ≤ value_from base (sum * base + digit_of b) bs = le_trans big (grows base (sum * base + digit_of b) bs pos) in
      rw (le-ltb (value_from base (sum * base + digit_of b) bs) (2 ^ 64) end, and-false)

  first_digit : digit_of b < base → summed base sum (b ∷ bs) ≡ summed base (sum * base + digit_of b) bs
  unfolding summed all_digits value_from
  first_digit k = rw (lt-ltb (digit_of b) base k)

-- the loop over the digits: its two refusals before, its start, and the ways on from the byte at index i
module _ (base most : ℕ) (word : List ℕ) where
  pub none : length word ≡ 0 → None ≡ unsigned_of base most word
  unfolding unsigned_of
  none h = rw (under 1 most (length word) (omega arith))

  pub too_many : most < length word → None ≡ unsigned_of base most word
  unfolding unsigned_of
  too_many h = rw (over 1 most (length word) h)

  pub begin : (length word ≡ 0 → ⊥) → length word ≤ most → unsigned_of base most word ≡ summed base 0 (drop 0 word)
  unfolding unsigned_of
  begin some few = rw (inside 1 most (length word) (omega arith) few)

  module _ (sum i : ℕ) (left : unsigned_of base most word ≡ summed base sum (drop i word)) where
    pub all_taken : length word ≤ i → sum < 2 ^ 64 → Some sum ≡ unsigned_of base most word
    unfolding summed all_digits value_from
    all_taken h small = sym (left ∙ rw (drop_of_length-le word h, lt-ltb sum (2 ^ 64) small))

    -- c is the byte at i, as a character
    module _ (h : i < length word) (c : ℕ) (at : c ≡ get_or word i 0) (low : base ≤ 16) where
      next : unsigned_of base most word ≡ summed base sum (c ∷ drop (suc i) word)
      next = left ∙ ap (summed base sum) (drop-cons word i 0 h ∙ rw at)

      pub no_digit : (digit_value c < base → ⊥) → None ≡ unsigned_of base most word
      no_digit k = sym (next ∙ first_other base sum c _ (digit_none base c low (omega arith)))

      -- d is what it says
      module _ (d : ℕ) (fits : digit_value c < base) (says : d ≡ digit_value c) where
        is : digit_of c ≡ d
        is = digit_is c (omega arith) ∙ sym says

        too_large : 2 ^ 64 ≤ sum * base + d → None ≡ unsigned_of base most word
        too_large k = sym (next ∙ first_large base sum c _ (omega arith) (rw is k))

        pub large_product : (b : ℕ) → b ≡ base → (sum * b < 2 ^ 64 → ⊥) → None ≡ unsigned_of base most word
        large_product b e k = let big : sum * base < 2 ^ 64 → ⊥ = rw e at k in too_large (omega arith)

        module _ (b p e : ℕ) (is_base : b ≡ base) (is_product : p ≡ sum * b) (is_digit : e ≡ d) where
          total : p + e ≡ sum * base + d
          total = rw (is_product, is_base, is_digit)

          pub large_sum : (p + e < 2 ^ 64 → ⊥) → None ≡ unsigned_of base most word
          large_sum k = too_large (omega (arith, total))

          pub one_digit : (s : ℕ) → s ≡ p + e → unsigned_of base most word ≡ summed base s (drop (i + 1) word)
          one_digit s t = next ∙ first_digit base sum c _ (omega (arith, is)) ∙ rw (add-one, is, t, total)

-- ---- `negative`: the wrapping negation of a magnitude is its two's complement

pub too_low : (m : ℕ) → 2 ^ 63 < m → None ≡ negative_of (Some m)
unfolding negative_of
too_low m h = rw (lt-leb m (2 ^ 63) h)

pub minus : (m r : ℕ) → m ≤ 2 ^ 63 → r < 2 ^ 64 → (r + m) % 2 ^ 64 ≡ 0 → Some r ≡ negative_of (Some m)
unfolding negative_of
minus m r low fits turns =
    let same : r ≡ (2 ^ 64 - m) % 2 ^ 64 = omega arith in
    rw (le-leb m (2 ^ 63) low, ← same)

-- ---- `number`: what stands before the digits

-- a part of a word that goes to its end
to_end : (k : ℕ) (word : List ℕ) → take (length word - k) (drop k word) ≡ drop k word
to_end k word = take_all (length word - k) (drop k word) (omega (arith, length-drop k word))

module _ (word : List ℕ) where
  module _ (dash : get_or word 0 0 ≡ 45) where
    with_minus : negative_of (unsigned_of 10 20 (take (length word - 1) (drop 1 word))) ≡ number_of word
    unfolding number_of
    with_minus = rw (to_end, eq-eqb _ _ dash)

    pub none_minus : None ≡ unsigned_of 10 20 (take (length word - 1) (drop 1 word)) → None ≡ number_of word
    unfolding negative_of
    none_minus e = ap negative_of e ∙ with_minus

    pub some_minus : (m : ℕ) (r : Option ℕ) → Some m ≡ unsigned_of 10 20 (take (length word - 1) (drop 1 word)) → r ≡ negative_of (Some m) → r ≡ number_of word
    some_minus m r e is = is ∙ ap negative_of e ∙ with_minus

  pub with_hex : get_or word 0 0 ≡ 48 → get_or word 1 0 ≡ 120 → unsigned_of 16 16 (take (length word - 2) (drop 2 word)) ≡ number_of word
  unfolding number_of
  with_hex e x = rw (to_end, e, x)

  pub without : (get_or word 0 0 ≡ 45 → ⊥) → (get_or word 0 0 ≡ 48 → get_or word 1 0 ≡ 120 → ⊥) → unsigned_of 10 20 word ≡ number_of word
  unfolding number_of
  without m x = rw (ne_eqb _ _ m) (go (eqb (get_or word 0 0) 48) refl (eqb (get_or word 1 0) 120) refl)
    where
      go : (s : Bool) → eqb (get_or word 0 0) 48 ≡ s → (t : Bool) → eqb (get_or word 1 0) 120 ≡ t
          → unsigned_of 10 20 word ≡ cond (s && t) (unsigned_of 16 16 (drop 2 word)) (unsigned_of 10 20 word)
      go false _ t _ = refl
      go true _ false _ = refl
      go true e true f = absurd (x (eqb-true _ _ e) (eqb-true _ _ f))

-- a word that is too short for what may stand before digits
pub none_of : (word : List ℕ) → length word < 1 → unsigned_of 10 20 word ≡ number_of word
none_of [] h = without [] (λ e. omega arith) (λ e f. omega arith)
none_of (b ∷ bs) h = absurd (omega arith)

pub one_of : (word : List ℕ) → length word < 2 → (get_or word 0 0 ≡ 45 → ⊥) → unsigned_of 10 20 word ≡ number_of word
one_of [] h m = without [] m (λ e f. omega arith)
one_of (b ∷ []) h m = without (b ∷ []) m (λ e f. omega arith)
one_of (a ∷ b ∷ bs) h m = absurd (omega arith)
