-- The code's steps: the highest bit in which min and max differ, by the leading zeros of min ^ max, and ones from there down.
use Rattle.std.proofs.Common.{◌≡◌, ℕ, suc, ◌+◌, ◌-◌, ◌*◌, ◌/◌, ◌%◌, ◌^◌, ◌<◌, ◌≤◌, max, Bool, false, sym, ap, ◌∙◌, ap₂, mod-lt, mod-eq_of_lt, mul_assoc, suc-mul, pow-suc, le-div_iff_mul-le, arith, pow_pos, pow-add, w64, Fits}
use native.Mathlib.Nat.{suc_inj, pow-succ', div-eq_of_lt, div-div-eq-div-mul}
use lib.Pow.{pow-lt, shl-shr, split, ones_lt}
use lib.Bits.{bit_or, bit_xor, and_le_l, and_le_r, and_mask, or_add_and, or_block, or_step, or_zero_r, xor_add_and, xor_self, xor_shr, xor_lt}
use lib.Count.{count_leading_zeros, leading_top}
use Rattle.type_integer.specs.Signed.{less}
use Rattle.mask.specs.Mask.{agreed, mask_of}
use Rattle.mask.proofs.Agreed.{agreed_same, agreed_at}

-- ---- min ^ max: 0 exactly where the two are equal

xor_none : (a b : ℕ) → bit_xor a b ≡ 0 → a ≡ b
xor_none a b e = omega (arith, xor_add_and a b, and_le_l a b, and_le_r a b)

xor_some : (a b : ℕ) → (a ≡ b → ⊥) → 0 < bit_xor a b
xor_some a b d =
    let n : bit_xor a b ≡ 0 → ⊥ = λ e. d (xor_none a b e) in
    omega (arith, n)

-- its highest bit is the highest in which the two differ
module _ (a b j : ℕ) (l : 2 ^ j ≤ bit_xor a b) (h : bit_xor a b < 2 ^ suc j) where
  above : a / 2 ^ suc j ≡ b / 2 ^ suc j
  above = xor_none (a / 2 ^ suc j) (b / 2 ^ suc j) (sym (xor_shr a b (suc j)) ∙ div-eq_of_lt h)

  there : a / 2 ^ j ≡ b / 2 ^ j → ⊥
  there e =
      let z : bit_xor a b / 2 ^ j ≡ 0 = xor_shr a b j ∙ ap (bit_xor (a / 2 ^ j)) (sym e) ∙ xor_self (a / 2 ^ j) in
      let o : 1 ≤ bit_xor a b / 2 ^ j = (le-div_iff_mul-le (pow_pos j)).1 (omega arith) in
      omega arith

-- ---- min | below | bit: ones from bit j down, and min's own bits above

low_ones : (j s : ℕ) → s < 2 ^ j → bit_or s (2 ^ j - 1) ≡ 2 ^ j - 1
low_ones j s h = omega (arith, or_add_and s (2 ^ j - 1), and_mask s j, mod-eq_of_lt h)

ored_one : (c : ℕ) → bit_or c 1 ≡ c / 2 * 2 + 1
ored_one c =
    let m : max (c % 2) 1 ≡ 1 = omega arith in
    or_step c 1 ∙ ap₂ (λ (x y : ℕ). x * 2 + y) (or_zero_r (c / 2)) m

module _ (a j : ℕ) where
  ored_below : bit_or a (2 ^ j - 1) ≡ a / 2 ^ j * 2 ^ j + (2 ^ j - 1)
  ored_below =
      let z : 2 ^ j - 1 ≡ 0 * 2 ^ j + (2 ^ j - 1) = omega arith in
      ap₂ bit_or (sym (split a j)) z
      ∙ or_block j (a / 2 ^ j) 0 (a % 2 ^ j) (2 ^ j - 1) (mod-lt a (pow_pos j)) (ones_lt j)
      ∙ ap₂ (λ (x y : ℕ). x * 2 ^ j + y) (or_zero_r (a / 2 ^ j)) (low_ones j (a % 2 ^ j) (mod-lt a (pow_pos j)))

  ored_both : bit_or (bit_or a (2 ^ j - 1)) (2 ^ j) ≡ (a / 2 ^ j / 2 * 2 + 1) * 2 ^ j + (2 ^ j - 1)
  ored_both =
      let o : 2 ^ j ≡ 1 * 2 ^ j + 0 = omega arith in
      ap₂ bit_or ored_below o
      ∙ or_block j (a / 2 ^ j) 1 (2 ^ j - 1) 0 (ones_lt j) (pow_pos j)
      ∙ ap₂ (λ (x y : ℕ). x * 2 ^ j + y) (ored_one (a / 2 ^ j)) (or_zero_r (2 ^ j - 1))

  ored : suc (bit_or (bit_or a (2 ^ j - 1)) (2 ^ j)) ≡ suc (a / 2 ^ suc j) * 2 ^ suc j
  ored =
      let p : ℕ = 2 ^ j in
      let q : ℕ = a / 2 ^ j / 2 in
      let pos : 0 < 2 ^ j = pow_pos j in
      let s : suc ((q * 2 + 1) * p + (p - 1)) ≡ (q * 2 + 1) * p + p = omega arith in
      let t : suc (q * 2 + 1) ≡ suc q * 2 = omega arith in
      ap suc ored_both ∙ s ∙ sym (suc-mul (q * 2 + 1) p)
      ∙ ap (λ (x : ℕ). x * p) t ∙ mul_assoc (suc q) 2 p
      ∙ ap₂ (λ (x y : ℕ). suc x * y) (div-div-eq-div-mul a (2 ^ j) 2 ∙ ap (λ (x : ℕ). a / x) (sym (pow-suc 2 j))) (sym (pow-succ' 2 j))

-- ---- what the code asks, in the words of its places: t is what the test of the order answered

pub constant : (min max : ℕ) (t : Bool) → t ≡ less max min → t ≡ false → min ≡ max → min ≡ mask_of min max
constant min max t e l q = rw (sym e ∙ l) (sym (ap (agreed 64 min) (sym q) ∙ agreed_same 64 min))

module _ (min max : ℕ) (f : Fits w64 min) (g : Fits w64 max) (d : min ≡ max → ⊥) where
  -- the place of the highest bit of min ^ max
  top : (j : ℕ) × (count_leading_zeros 64 (bit_xor min max) + suc j ≡ 64) × (2 ^ j ≤ bit_xor min max) × (bit_xor min max < 2 ^ suc j)
  top = leading_top 64 (bit_xor min max) (xor_some min max d) (xor_lt 64 min max f.fits g.fits)

  pub zeros_few : count_leading_zeros 64 (bit_xor min max) < 64
  zeros_few = omega (arith, top.1)

  pub zeros_fit : Fits w64 (count_leading_zeros 64 (bit_xor min max))
  zeros_fit = record { fits = omega (arith, zeros_few) }

  bit_is : 2 ^ 63 / 2 ^ count_leading_zeros 64 (bit_xor min max) ≡ 2 ^ top.0
  bit_is =
      let z : ℕ = count_leading_zeros 64 (bit_xor min max) in
      let e : 63 ≡ top.0 + z = omega (arith, top.1) in
      ap (λ (x : ℕ). 2 ^ x / 2 ^ z) e ∙ ap (λ (x : ℕ). x / 2 ^ z) (pow-add 2 top.0 z) ∙ shl-shr (2 ^ top.0) z

  pub steps_are : (t : Bool) (below : ℕ) → t ≡ less max min → t ≡ false → below < 2 ^ 64
      → (below + 1) % 2 ^ 64 ≡ 2 ^ 63 / 2 ^ count_leading_zeros 64 (bit_xor min max)
      → bit_or (bit_or min below) (2 ^ 63 / 2 ^ count_leading_zeros 64 (bit_xor min max)) ≡ mask_of min max
  steps_are t below e l h w =
      let j : ℕ = top.0 in
      let k : 2 ^ j < 2 ^ 64 = pow-lt {i = j} {j = 64} (omega (arith, top.1)) in
      let p : 0 < 2 ^ j = pow_pos j in
      let b : below ≡ 2 ^ j - 1 = omega (arith, w ∙ bit_is) in
      let a = agreed_at j 64 min max (omega (arith, top.1)) (above min max j top.2 top.3) (there min max j top.2 top.3) in
      ap₂ (λ (x y : ℕ). bit_or (bit_or min x) y) b bit_is ∙ suc_inj (ored min j ∙ sym a) ∙ rw (sym e ∙ l)
