-- `is_single` of a bit pattern, by its exponent's field x and its digits t.
use mathlib.Core.Path.{◌≡◌, refl, sym, ap, ◌∙◌}
use mathlib.Core.Bool.{Bool, true, false, not, cond, ◌&&◌, and-true, and-false}
use Prim.Native.Nat.{ℕ, zero, suc, ◌+◌, ◌-◌, ◌*◌, ◌/◌, ◌%◌, ◌^◌, ◌≤◌, ◌<◌}
use native.Mathlib.Nat.{zero-lt-suc, add_comm, one-mul, mul-le-mul_right}
use native.Mathlib.Omega.{arith}
use mathlib.Core.Logic.{◌⊎◌, inl, inr}
use lib.Dec.{leb, ltb, eqb}
use lib.Pow.{pow_mono, pow_pos, shl_exact}
use lib.IntN.{ℤ}
use lib.Count.{count_trailing_zeros, trailing_le}
use lib.Ieee.{Float, inf, nan, up, down, minus, odd, fits, is_nan, of_bits, of_fields, binary32, binary64}
use borrow.Author.Tests.{le-leb, lt-leb, ne_eqb, leb-true, leb-false}
use Rattle.type_float.specs.Single.{is_single}
use Rattle.type_float.proofs.Odd.{tz_div, tz_odd, fits_is, not_low, zeros_by_rem, odd_is, normal}

single : Float → Bool
single v = fits binary32 v && not (is_nan v)

of : Bool → ℕ → ℕ → Bool
unfolding single
of s x t = single (of_fields binary64 s x t)

-- the pattern's fields
at : (b x : ℕ) → b % 2 ^ 63 / 2 ^ 52 ≡ x → is_single b ≡ of (leb (2 ^ 63) b) x (b % 2 ^ 52)
unfolding is_single single of of_bits
at b x e = ap (λ (y : ℕ). single (of_fields binary64 (leb (2 ^ 63) b) y (b % 2 ^ 52))) e

-- too low whatever the digits
low_out : (s : Bool) (q k : ℕ) → 0 < q → q < 2 ^ 53 → k + count_trailing_zeros 53 q < 925 → fits binary32 (odd 53 s q k 1074) ≡ false
low_out s q k p hi l =
    let z : ℕ = count_trailing_zeros 53 q in
    let m : ℕ = q / 2 ^ z in
    let e : ℤ = minus (k + z) 1074 in
    ap (fits binary32) (odd_is 53 s q k 1074 p)
    ∙ fits_is binary32 s m e (tz_odd 53 q p hi)
    ∙ ap (λ (b : Bool). ltb m (2 ^ 24) && b && ltb (m * up e) (2 ^ 128 * down e)) (not_low (k + z) ∙ lt-leb 925 (k + z) l)
    ∙ ap (λ (b : Bool). b && ltb (m * up e) (2 ^ 128 * down e)) (and-false (ltb m (2 ^ 24)))

-- a zero, or below every normal double
field_0 : (s : Bool) (t : ℕ) → t < 2 ^ 52 → of s 0 t ≡ eqb t 0
unfolding of single of_fields odd fits is_nan
field_0 s zero h = refl
field_0 s (suc t) h =
    let z : count_trailing_zeros 53 (suc t) ≤ 53 = trailing_le 53 (suc t) in
    ap (λ (b : Bool). b && not (is_nan (odd 53 s (suc t) 0 1074))) (low_out s (suc t) 0 (zero-lt-suc t) (omega arith) (omega arith)) ∙ sym (ne_eqb (suc t) 0 (λ e. omega arith))

-- an infinity or a NaN
field_ones : (s : Bool) (t : ℕ) → of s 2047 t ≡ eqb t 0
unfolding of single of_fields fits is_nan
field_ones s zero = refl
field_ones s (suc t) =
    let e : eqb (suc t) 0 ≡ false = ne_eqb (suc t) 0 (λ h. omega arith) in
    ap (λ (b : Bool). single (cond b (inf s) nan)) e ∙ sym e

not_nan : (d : ℕ) (s : Bool) (q k l : ℕ) → 0 < q → not (is_nan (odd d s q k l)) ≡ true
unfolding is_nan
not_nan d s q k l h = ap (λ (v : Float). not (is_nan v)) (odd_is d s q k l h)

-- a leading digit
field_more : (s : Bool) (k t : ℕ) → (suc k ≡ 2047 → ⊥) → of s (suc k) t ≡ fits binary32 (odd 53 s (2 ^ 52 + t) k 1074)
unfolding of single of_fields
field_more s k t h =
    ap (λ (b : Bool). single (cond b (cond (eqb t 0) (inf s) nan) (odd 53 s (2 ^ 52 + t) k 1074))) (ne_eqb (suc k) 2047 h)
    ∙ ap (λ (b : Bool). fits binary32 (odd 53 s (2 ^ 52 + t) k 1074) && b) (not_nan 53 s (2 ^ 52 + t) k 1074 (omega arith))
    ∙ and-true (fits binary32 (odd 53 s (2 ^ 52 + t) k 1074))

-- q has fewer than 53 zeros at its end
few : (q : ℕ) → 0 < q → q < 2 ^ 53 → count_trailing_zeros 53 q ≤ 52
few q p hi = go (leb (count_trailing_zeros 53 q) 52) refl
  where
    go : (b : Bool) → leb (count_trailing_zeros 53 q) 52 ≡ b → count_trailing_zeros 53 q ≤ 52
    go true t = leb-true _ 52 t
    go false t =
        let z : ℕ = count_trailing_zeros 53 q in
        let m : ℕ = q / 2 ^ z in
        let o : m % 2 ≡ 1 = tz_odd 53 q p hi in
        let g : 2 ^ 53 ≤ 2 ^ z = pow_mono {i = 53} {j = z} (leb-false _ 52 t) in
        let r : 1 * 2 ^ z ≤ m * 2 ^ z = mul-le-mul_right (2 ^ z) (omega arith) in
        let w : m * 2 ^ z ≡ q = tz_div 53 q in
        absurd (omega arith)

high : (s : Bool) (q k : ℕ) → 2 ^ 52 ≤ q → q < 2 ^ 53 → 1149 < k → fits binary32 (odd 53 s q k 1074) ≡ false
high s q k lo hi h = normal s q k lo hi ∙ ap (λ (b : Bool). leb 29 (count_trailing_zeros 53 q) && leb 925 (k + count_trailing_zeros 53 q) && b) (lt-leb k 1149 h) ∙ and-false (leb 29 (count_trailing_zeros 53 q) && leb 925 (k + count_trailing_zeros 53 q))

low : (s : Bool) (q k : ℕ) → 2 ^ 52 ≤ q → q < 2 ^ 53 → k ≤ 872 → fits binary32 (odd 53 s q k 1074) ≡ false
low s q k lo hi h =
    let z = few q (omega arith) hi in
    low_out s q k (omega arith) hi (omega arith)

-- at d zeros, where d is 29 and k is enough, or k wants d
mid : (s : Bool) (q k d : ℕ) → 2 ^ 52 ≤ q → q < 2 ^ 53 → k ≤ 1149 → 29 ≤ d → 925 ≤ k + d → ((d ≡ 29) ⊎ (k + d ≡ 925)) → fits binary32 (odd 53 s q k 1074) ≡ eqb (q % 2 ^ d) 0
mid s q k d lo hi h l g w = normal s q k lo hi ∙ ap (λ (b : Bool). leb 29 z && leb 925 (k + z) && b) (le-leb k 1149 h) ∙ and-true (leb 29 z && leb 925 (k + z)) ∙ both (leb d z) refl w ∙ zeros_by_rem q (q / 2 ^ z) z d (sym (tz_div 53 q)) (tz_odd 53 q (omega arith) hi)
  where
    z : ℕ
    z = count_trailing_zeros 53 q

    both : (b : Bool) → leb d z ≡ b → ((d ≡ 29) ⊎ (k + d ≡ 925)) → (leb 29 z && leb 925 (k + z)) ≡ leb d z
    both true t w =
        let m = leb-true d z t in
        rw (le-leb 29 z (omega arith), le-leb 925 (k + z) (omega arith)) (sym t)
    both false t (inl e) =
        let m = leb-false d z t in
        rw (lt-leb 29 z (omega arith)) (sym t)
    both false t (inr e) =
        let m = leb-false d z t in
        ap (λ (b : Bool). leb 29 z && b) (lt-leb 925 (k + z) (omega arith)) ∙ and-false (leb 29 z) ∙ sym t

-- ---- what the code asks

more : (b x : ℕ) → b % 2 ^ 63 / 2 ^ 52 ≡ x → 0 < x → (x ≡ 2047 → ⊥) → is_single b ≡ fits binary32 (odd 53 (leb (2 ^ 63) b) (b % 2 ^ 52 + 2 ^ 52) (x - 1) 1074)
more b x e h n =
    let y : x ≡ suc (x - 1) = omega arith in
    at b (suc (x - 1)) (e ∙ y)
    ∙ field_more (leb (2 ^ 63) b) (x - 1) (b % 2 ^ 52) (λ f. n (y ∙ f))
    ∙ ap (λ (q : ℕ). fits binary32 (odd 53 (leb (2 ^ 63) b) q (x - 1) 1074)) (add_comm (2 ^ 52) (b % 2 ^ 52))

abbrev field : ℕ → ℕ
field b = b % 2 ^ 63 / 2 ^ 52

pub zero_is : (b : ℕ) → field b ≡ 0 → eqb (b % 2 ^ 52) 0 ≡ is_single b
zero_is b e = sym (at b 0 e ∙ field_0 (leb (2 ^ 63) b) (b % 2 ^ 52) (omega arith))

pub ones_is : (b : ℕ) → field b ≡ 2047 → eqb (b % 2 ^ 52) 0 ≡ is_single b
ones_is b e = sym (at b 2047 e ∙ field_ones (leb (2 ^ 63) b) (b % 2 ^ 52))

module _ (b : ℕ) (n : field b ≡ 2047 → ⊥) where
  pub high_is : 1150 < field b → false ≡ is_single b
  high_is h = sym (more b (field b) refl (omega arith) n ∙ high _ (b % 2 ^ 52 + 2 ^ 52) (field b - 1) (omega arith) (omega arith) (omega arith))

  pub low_is : (field b ≡ 0 → ⊥) → field b < 874 → false ≡ is_single b
  low_is p h = sym (more b (field b) refl (omega arith) n ∙ low _ (b % 2 ^ 52 + 2 ^ 52) (field b - 1) (omega arith) (omega arith) (omega arith))

  pub mid_is : 897 ≤ field b → field b ≤ 1150 → eqb ((b % 2 ^ 52 + 2 ^ 52) % 2 ^ 29) 0 ≡ is_single b
  mid_is l h = sym (more b (field b) refl (omega arith) n ∙ mid _ (b % 2 ^ 52 + 2 ^ 52) (field b - 1) 29 (omega arith) (omega arith) (omega arith) (omega arith) (omega arith) (inl refl))

module _ (b : ℕ) (l : 874 ≤ field b) (h : field b < 897) where
  shift_is : (1 * 2 ^ (926 - field b)) % 2 ^ 64 ≡ 1 * 2 ^ (926 - field b)
  shift_is = shl_exact 1 (926 - field b) 64 (omega arith) (omega arith)

  pub shift_pos : 0 < (1 * 2 ^ (926 - field b)) % 2 ^ 64
  shift_pos =
      let p : 0 < 2 ^ (926 - field b) = pow_pos (926 - field b) in
      omega (arith, shift_is)

  pub sub_is : eqb ((b % 2 ^ 52 + 2 ^ 52) % ((1 * 2 ^ (926 - field b)) % 2 ^ 64)) 0 ≡ is_single b
  sub_is =
      ap (λ (y : ℕ). eqb ((b % 2 ^ 52 + 2 ^ 52) % y) 0) (shift_is ∙ one-mul (2 ^ (926 - field b)))
      ∙ sym (more b (field b) refl (omega arith) (λ e. omega arith) ∙ mid _ (b % 2 ^ 52 + 2 ^ 52) (field b - 1) (926 - field b) (omega arith) (omega arith) (omega arith) (omega arith) (omega arith) (inr (omega arith)))
