-- Document 01's rule of the mask: "bit k is 1 exactly if some number of the range has bit k; high ranges 0" (`mask_bit`).
use Rattle.std.proofs.Common.{◌≡◌, ℕ, zero, suc, ◌+◌, ◌-◌, ◌*◌, ◌/◌, ◌%◌, ◌^◌, ◌<◌, ◌≤◌, max, Bool, true, false, cond, not, ◌&&◌, eqb, ltb, ◌↔◌, sym, refl, ap, ◌∙◌, ap₂, le_refl, arith, ltb-false, ltb-true, eq-eqb, eqb-true}
use native.Mathlib.Nat.{zero-div, pow-succ'}
use borrow.Author.Tests.{eqb-false}
use Rattle.type_integer.specs.Signed.{less}
use Rattle.mask.specs.Mask.{agreed, mask_of, bit, in_range}
use Rattle.mask.proofs.Agreed.{half_first, agreed_at, agreed_fits}
use Rattle.mask.proofs.Order.{place, less_true, less_false, not_less}

-- ---- bits

half_bit : (k w : ℕ) → bit (suc k) w ≡ bit k (w / 2)
half_bit k w = ap (λ (x : ℕ). eqb (x % 2) 1) (half_first w k)

more_bit : (k x : ℕ) → bit (suc k) (1 + 2 * x) ≡ bit k x
more_bit k x =
    let e : (1 + 2 * x) / 2 ≡ x = omega arith in
    half_bit k (1 + 2 * x) ∙ ap (bit k) e

odd_bit : (w : ℕ) → w % 2 ≡ 1 → bit 0 w ≡ true
odd_bit w e = eq-eqb (w / 1 % 2) 1 (omega arith)

no_bit : (k : ℕ) → bit k 0 ≡ true → ⊥
no_bit k t = omega (arith, eqb-true (0 / 2 ^ k % 2) 1 t, zero-div (2 ^ k))

-- ---- the rule for numbers without a sign: bit k of `agreed` is 1 exactly if some number from a to b has bit k

abbrev Some : ℕ → ℕ → ℕ → Type 0
Some k a b = (w : ℕ) × (a ≤ w) × (w ≤ b) × (bit k w ≡ true)

-- a number of the range with bit k + 1, from a number between the halves of its ends with bit k
doubled : (k a b : ℕ) → a ≤ b → Some k (a / 2) (b / 2) → Some (suc k) a b
doubled k a b l s =
    let v : ℕ = s.0 in
    let lo : a / 2 ≤ v = s.1 in
    let hi : v ≤ b / 2 = s.2 in
    let e : max a (2 * v) / 2 ≡ v = omega arith in
    (max a (2 * v), omega arith, omega arith, half_bit k (max a (2 * v)) ∙ ap (bit k) e ∙ s.3)

some : (n k a b : ℕ) → a ≤ b → bit k (agreed n a b) ≡ true → Some k a b
unfolding agreed
some zero k a b l t = (a, le_refl a, l, t)
some (suc n) zero a b l t = go (eqb a b) refl t
  where
    go : (s : Bool) → eqb a b ≡ s → bit 0 (cond s a (1 + 2 * agreed n (a / 2) (b / 2))) ≡ true → Some 0 a b
    go true e t = (a, le_refl a, l, t)
    go false e t =
        let d = eqb-false a b e in
        (a + 1 - a % 2, omega arith, omega (arith, d), odd_bit (a + 1 - a % 2) (omega arith))
some (suc n) (suc k) a b l t = go (eqb a b) t (λ m u. some n k (a / 2) (b / 2) m u)
  where
    go : (s : Bool) → bit (suc k) (cond s a (1 + 2 * agreed n (a / 2) (b / 2))) ≡ true
        → (a / 2 ≤ b / 2 → bit k (agreed n (a / 2) (b / 2)) ≡ true → Some k (a / 2) (b / 2)) → Some (suc k) a b
    go true t ih = (a, le_refl a, l, t)
    go false t ih = doubled k a b l (ih (omega arith) (sym (more_bit k (agreed n (a / 2) (b / 2))) ∙ t))

every : (n k a b w : ℕ) → a ≤ w → w ≤ b → b < 2 ^ n → bit k w ≡ true → bit k (agreed n a b) ≡ true
unfolding agreed
every zero k a b w l m h t =
    let e : a ≡ w = omega arith in
    ap (bit k) e ∙ t
every (suc n) zero a b w l m h t = go (eqb a b) refl
  where
    go : (s : Bool) → eqb a b ≡ s → bit 0 (cond s a (1 + 2 * agreed n (a / 2) (b / 2))) ≡ true
    go true e =
        let q = eqb-true a b e in
        let f : a ≡ w = omega arith in
        ap (bit 0) f ∙ t
    go false e = odd_bit (1 + 2 * agreed n (a / 2) (b / 2)) (omega arith)
every (suc n) (suc k) a b w l m h t = go (eqb a b) refl (λ l m h. every n k (a / 2) (b / 2) (w / 2) l m h)
  where
    go : (s : Bool) → eqb a b ≡ s → (a / 2 ≤ w / 2 → w / 2 ≤ b / 2 → b / 2 < 2 ^ n → bit k (w / 2) ≡ true → bit k (agreed n (a / 2) (b / 2)) ≡ true)
        → bit (suc k) (cond s a (1 + 2 * agreed n (a / 2) (b / 2))) ≡ true
    go true e ih =
        let q = eqb-true a b e in
        let f : a ≡ w = omega arith in
        ap (bit (suc k)) f ∙ t
    go false e ih =
        let p : 2 ^ suc n ≡ 2 * 2 ^ n = pow-succ' 2 n in
        more_bit k (agreed n (a / 2) (b / 2)) ∙ ih (omega arith) (omega arith) (omega arith) (sym (half_bit k w) ∙ t)

-- ---- the rule for words with a sign

neither : (s t : Bool) → (not s && not t) ≡ true → (s ≡ false) × (t ≡ false)
neither true t e = (cc, cc)
neither false true e = (cc, cc)
neither false false e = (refl, refl)

all_ones : agreed 64 0 (2 ^ 64 - 1) ≡ 2 ^ 64 - 1
unfolding agreed
all_ones = refl

module _ (min max : ℕ) (f : min < 2 ^ 64) (g : max < 2 ^ 64) where
  -- some word of the range has bit k
  abbrev Has : ℕ → Type 0
  Has k = (w : ℕ) × (w < 2 ^ 64) × (in_range min max w ≡ true) × (bit k w ≡ true)

  within : (w : ℕ) → w < 2 ^ 64 → in_range min max w ≡ true → (place min ≤ place w) × (place w ≤ place max)
  within w h e =
      let n = neither (less w min) (less max w) e in
      (less_false w min h f n.0, less_false max w g h n.1)

  range : (w : ℕ) → w < 2 ^ 64 → place min ≤ place w → place w ≤ place max → in_range min max w ≡ true
  range w h l m = ap₂ (λ (s t : Bool). not s && not t) (not_less w min h f l) (not_less max w g h m)

  -- from a number below 0 to one that is not: the sign bits differ, and -1 is between
  module _ (o : place min ≤ place max) (c : max < min) where
    ones : agreed 64 min max ≡ 2 ^ 64 - 1
    ones =
        let e = agreed_at 63 64 min max (omega arith) (omega arith) (λ q. omega arith) in
        omega arith

    cross_to : (k : ℕ) → bit k (agreed 64 min max) ≡ true → Has k
    cross_to k t = (2 ^ 64 - 1, omega arith, range (2 ^ 64 - 1) (omega arith) (omega arith) (omega arith), ap (bit k) (sym ones) ∙ t)

    cross_from : (k : ℕ) → Has k → bit k (agreed 64 min max) ≡ true
    cross_from k h = ap (bit k) (ones ∙ sym all_ones) ∙ every 64 k 0 (2 ^ 64 - 1) h.0 (omega arith) (omega (arith, h.1)) (omega arith) h.3

  -- of one sign: the words are ordered as their numbers are
  module _ (o : place min ≤ place max) (c : min ≤ max) where
    same_to : (k : ℕ) → bit k (agreed 64 min max) ≡ true → Has k
    same_to k t =
        let s = some 64 k min max c t in
        let l : min ≤ s.0 = s.1 in
        let m : s.0 ≤ max = s.2 in
        (s.0, omega arith, range s.0 (omega arith) (omega arith) (omega arith), s.3)

    same_from : (k : ℕ) → Has k → bit k (agreed 64 min max) ≡ true
    same_from k h =
        let q : h.0 < 2 ^ 64 = h.1 in
        let l = within h.0 h.1 h.2 in
        every 64 k min max h.0 (omega (arith, l.0, l.1)) (omega (arith, l.0, l.1)) g h.3

  -- no number is of a high range
  high_none : less max min ≡ true → (k : ℕ) → Has k → ⊥
  high_none e k h =
      let l = within h.0 h.1 h.2 in
      omega (arith, less_true max min g f e, l.0, l.1)

  by_order : (k : ℕ) → place min ≤ place max → (t : Bool) → ltb max min ≡ t → (bit k (agreed 64 min max) ≡ true) ↔ Has k
  by_order k o true e = (cross_to o (ltb-true max min e) k, cross_from o (ltb-true max min e) k)
  by_order k o false e = (same_to o (ltb-false max min e) k, same_from o (ltb-false max min e) k)

  by_test : (k : ℕ) (t : Bool) → less max min ≡ t → (bit k (cond t 0 (agreed 64 min max)) ≡ true) ↔ Has k
  by_test k true e = (λ b. absurd (no_bit k b), λ h. absurd (high_none e k h))
  by_test k false e = by_order k (less_false max min g f e) (ltb max min) refl

-- ---- the rule, word for word; from bit 64 on neither side holds, and of a high range the right side never does

pub mask_bit : (min max k : ℕ) → min < 2 ^ 64 → max < 2 ^ 64
    → (bit k (mask_of min max) ≡ true) ↔ ((w : ℕ) × (w < 2 ^ 64) × (in_range min max w ≡ true) × (bit k w ≡ true))
mask_bit min max k f g = by_test min max f g k (less max min) refl

-- a mask is a word
pub mask_fits : (min max : ℕ) → min < 2 ^ 64 → mask_of min max < 2 ^ 64
mask_fits min max f = by (less max min)
  where
    by : (t : Bool) → cond t 0 (agreed 64 min max) < 2 ^ 64
    by true = omega arith
    by false = agreed_fits 64 min max f
