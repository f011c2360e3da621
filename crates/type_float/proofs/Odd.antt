-- What binary32 holds among the values that `odd` writes for binary64.
use mathlib.Core.Path.{◌≡◌, refl, sym, ap, ◌∙◌}
use mathlib.Core.Bool.{Bool, true, false, cond, ◌&&◌}
use Prim.Native.Nat.{ℕ, zero, suc, ◌+◌, ◌-◌, ◌*◌, ◌/◌, ◌%◌, ◌^◌, ◌≤◌, ◌<◌}
use native.Mathlib.Nat.{mul-one, div-one, pow-succ', div-div-eq-div-mul, mul_left_comm, mul_assoc, mul-le-mul_left, mul-le-mul_right, mul-lt-mul_of_pos_right, mul-mod_left, div-add-mod', le_of_mul-le-mul_right, le_antisymm, le_of_eq, lt_of_le_of_lt, le_trans, lt_irrefl, mul_right_comm, lt_of_lt_of_le, lt_of_mul-lt-mul_right}
use native.Mathlib.Omega.{arith}
use lib.Dec.{leb, ltb, eqb}
use lib.Pow.{pow-add, pow_pos, pow_mono, pow-lt}
use lib.IntN.{ℤ, pos, negsuc}
use lib.Count.{count_trailing_zeros, under}
use lib.Ieee.{Format, fin, up, down, minus, odd, fits, binary32, prec, low, emax}
use lib.Ieee.Digits.{odd_val}
use lib.Ieee.Fits.{down_pos}
use borrow.Author.Tests.{le-leb, lt-leb, eq-eqb, ne_eqb, leb-true, leb-false, ltb-true, ltb-false}

-- ---- the zeros at a number's end (as in lib.Ieee.Digits and lib.Ieee.Fits, where these two are private)

whole : (n : ℕ) → n / 1 * 1 ≡ n
whole n = mul-one (n / 1) ∙ div-one n

twice_half : (n : ℕ) → n % 2 ≡ 0 → 2 * (n / 2) ≡ n
twice_half n e = omega arith

pub tz_div : (d n : ℕ) → n / 2 ^ count_trailing_zeros d n * 2 ^ count_trailing_zeros d n ≡ n
unfolding count_trailing_zeros
tz_div zero n = whole n
tz_div (suc d) n = go (n % 2) refl (tz_div d (n / 2))
  where
    go : (r : ℕ) → n % 2 ≡ r → n / 2 / 2 ^ count_trailing_zeros d (n / 2) * 2 ^ count_trailing_zeros d (n / 2) ≡ n / 2
        → n / 2 ^ under r (count_trailing_zeros d (n / 2)) * 2 ^ under r (count_trailing_zeros d (n / 2)) ≡ n
    go zero e ih =
        let t = count_trailing_zeros d (n / 2) in
        ap (λ (x : ℕ). n / x * x) (pow-succ' 2 t)
        ∙ ap (λ (x : ℕ). x * (2 * 2 ^ t)) (sym (div-div-eq-div-mul n 2 (2 ^ t)))
        ∙ mul_left_comm (n / 2 / 2 ^ t) 2 (2 ^ t)
        ∙ ap (λ (x : ℕ). 2 * x) ih
        ∙ twice_half n e
    go (suc r) e ih = whole n

half_pos : (q : ℕ) → 0 < q → q % 2 ≡ 0 → 0 < q / 2
half_pos q h e = omega arith

is_one : (q r : ℕ) → q % 2 ≡ suc r → q % 2 ≡ 1
is_one q r e = omega arith

none_below_one : (q : ℕ) → 0 < q → q < 1 → ⊥
none_below_one q h k = omega arith

half_lt : (d q : ℕ) → q < 2 ^ suc d → q / 2 < 2 ^ d
half_lt d q k =
    let e : 2 ^ suc d ≡ 2 * 2 ^ d = pow-succ' 2 d in
    omega arith

pub tz_odd : (d q : ℕ) → 0 < q → q < 2 ^ d → q / 2 ^ count_trailing_zeros d q % 2 ≡ 1
unfolding count_trailing_zeros
tz_odd zero q h k = absurd (none_below_one q h k)
tz_odd (suc d) q h k = go (q % 2) refl (λ (e : q % 2 ≡ 0). tz_odd d (q / 2) (half_pos q h e) (half_lt d q k))
  where
    go : (r : ℕ) → q % 2 ≡ r → (q % 2 ≡ 0 → q / 2 / 2 ^ count_trailing_zeros d (q / 2) % 2 ≡ 1) → q / 2 ^ under r (count_trailing_zeros d (q / 2)) % 2 ≡ 1
    go zero e ih =
        let t = count_trailing_zeros d (q / 2) in
        ap (λ (x : ℕ). x % 2) (ap (λ (x : ℕ). q / x) (pow-succ' 2 t) ∙ sym (div-div-eq-div-mul q 2 (2 ^ t))) ∙ ih e
    go (suc r) e ih = ap (λ (x : ℕ). x % 2) (div-one q) ∙ is_one q r e

-- ---- tests that go the same way

pub same_leb : (b : Bool) (c d : ℕ) → (b ≡ true → c ≤ d) → (b ≡ false → d < c) → b ≡ leb c d
same_leb true c d f g = sym (le-leb c d (f refl))
same_leb false c d f g = sym (lt-leb c d (g refl))

-- ---- the three tests of `fits binary32`

pub fits_is : (f : Format) (s : Bool) (m : ℕ) (e : ℤ) → m % 2 ≡ 1 → fits f (fin s m e) ≡ (ltb m (2 ^ prec f) && leb (down e) (2 ^ low f) && ltb (m * up e) (2 ^ suc (emax f) * down e))
unfolding fits
fits_is f s zero e o = absurd (omega arith)
fits_is f s (suc m) e o = rw (eq-eqb (suc m % 2) 1 o)

-- the digits
pub digits : (q m z : ℕ) → q ≡ m * 2 ^ z → 2 ^ 52 ≤ q → q < 2 ^ 53 → ltb m (2 ^ 24) ≡ leb 29 z
digits q m z e lo hi = same_leb (ltb m (2 ^ 24)) 29 z (λ h. yes (leb 29 z) refl (ltb-true m (2 ^ 24) h)) (λ h. no (leb 29 z) refl (ltb-false m (2 ^ 24) h))
  where
    yes : (b : Bool) → leb 29 z ≡ b → m < 2 ^ 24 → 29 ≤ z
    yes true t h = leb-true 29 z t
    yes false t h =
        let l : z < 29 = leb-false 29 z t in
        let p : 2 ^ z ≤ 2 ^ 28 = pow_mono {i = z} {j = 28} (omega arith) in
        let r : m * 2 ^ z ≤ m * 2 ^ 28 = mul-le-mul_left m p in
        absurd (omega arith)

    no : (b : Bool) → leb 29 z ≡ b → 2 ^ 24 ≤ m → z < 29
    no false t h = leb-false 29 z t
    no true t h =
        let p : 2 ^ 29 ≤ 2 ^ z = pow_mono (leb-true 29 z t) in
        let r : m * 2 ^ 29 ≤ m * 2 ^ z = mul-le-mul_left m p in
        absurd (omega arith)

-- the exponent is not too low
pub not_low : (a : ℕ) → leb (down (minus a 1074)) (2 ^ 149) ≡ leb 925 a
not_low a = go (leb 1074 a) refl
  where
    go : (b : Bool) → leb 1074 a ≡ b → leb (down (cond b (pos (a - 1074)) (negsuc (1074 - suc a)))) (2 ^ 149) ≡ leb 925 a
    go true t =
        let l = leb-true 1074 a t in
        sym (le-leb 925 a (omega arith))
    go false t =
        let l = leb-false 1074 a t in
        under_top (leb 925 a) refl l
      where
        under_top : (b : Bool) → leb 925 a ≡ b → a < 1074 → leb (2 ^ suc (1074 - suc a)) (2 ^ 149) ≡ leb 925 a
        under_top true u l =
            let v = leb-true 925 a u in
            le-leb (2 ^ suc (1074 - suc a)) (2 ^ 149) (pow_mono {i = suc (1074 - suc a)} {j = 149} (omega arith)) ∙ sym u
        under_top false u l =
            let v = leb-false 925 a u in
            lt-leb (2 ^ suc (1074 - suc a)) (2 ^ 149) (pow-lt {i = 149} {j = suc (1074 - suc a)} (omega arith)) ∙ sym u

-- nor too high
pub not_high : (q k M D : ℕ) → M * 2 ^ 1074 ≡ q * 2 ^ k * D → 0 < D → 2 ^ 52 ≤ q → q < 2 ^ 53 → ltb M (2 ^ 128 * D) ≡ leb k 1149
not_high q k M D v dpos lo hi = same_leb (ltb M (2 ^ 128 * D)) k 1149 (λ h. yes (leb k 1149) refl (ltb-true M (2 ^ 128 * D) h)) (λ h. no (leb k 1149) refl (ltb-false M (2 ^ 128 * D) h))
  where
    -- 2 ^ 1202 of D are 2 ^ 128 of D, 2 ^ 1074 times
    turn : 2 ^ 1202 * D ≡ 2 ^ 128 * D * 2 ^ 1074
    turn = mul_right_comm (2 ^ 128) (2 ^ 1074) D

    yes : (b : Bool) → leb k 1149 ≡ b → M < 2 ^ 128 * D → k ≤ 1149
    yes true t h = leb-true k 1149 t
    yes false t h =
        let l : 1150 ≤ k = leb-false k 1149 t in
        let b : 2 ^ 1202 ≤ q * 2 ^ k = le_trans (mul-le-mul_right (2 ^ 1150) lo) (mul-le-mul_left q (pow_mono l)) in
        let r : 2 ^ 128 * D * 2 ^ 1074 ≤ M * 2 ^ 1074 = rw (v, ← turn) (mul-le-mul_right D b) in
        absurd (lt_irrefl _ (lt_of_le_of_lt (le_of_mul-le-mul_right r (pow_pos 1074)) h))

    no : (b : Bool) → leb k 1149 ≡ b → 2 ^ 128 * D ≤ M → 1149 < k
    no false t h = leb-false k 1149 t
    no true t h =
        let b : q * 2 ^ k < 2 ^ 1202 = lt_of_le_of_lt (mul-le-mul_left q (pow_mono (leb-true k 1149 t))) (mul-lt-mul_of_pos_right hi (pow_pos 1149)) in
        let r : M * 2 ^ 1074 < 2 ^ 128 * D * 2 ^ 1074 = rw (v, ← turn) (mul-lt-mul_of_pos_right b dpos) in
        absurd (lt_irrefl _ (lt_of_lt_of_le (lt_of_mul-lt-mul_right (2 ^ 1074) r) h))

-- the zeros at the end, by a remainder
pub zeros_by_rem : (q m z d : ℕ) → q ≡ m * 2 ^ z → m % 2 ≡ 1 → leb d z ≡ eqb (q % 2 ^ d) 0
zeros_by_rem q m z d e o = go (leb d z) refl
  where
    go : (b : Bool) → leb d z ≡ b → leb d z ≡ eqb (q % 2 ^ d) 0
    go true t =
        let l = leb-true d z t in
        let s : z - d + d ≡ z = omega arith in
        let w : q ≡ m * 2 ^ (z - d) * 2 ^ d = e ∙ ap (λ (x : ℕ). m * 2 ^ x) (sym s) ∙ ap (λ (x : ℕ). m * x) (pow-add 2 (z - d) d) ∙ sym (mul_assoc m (2 ^ (z - d)) (2 ^ d)) in
        t ∙ sym (eq-eqb (q % 2 ^ d) 0 (ap (λ (x : ℕ). x % 2 ^ d) w ∙ mul-mod_left (m * 2 ^ (z - d)) (2 ^ d)))
    go false t = t ∙ sym (ne_eqb (q % 2 ^ d) 0 (λ h. no h (leb-false d z t)))
      where
        no : q % 2 ^ d ≡ 0 → z < d → ⊥
        no h l =
            let c : ℕ = q / 2 ^ d in
            let j : ℕ = d - suc z in
            let s : suc j + z ≡ d = omega arith in
            let w : c * 2 ^ d ≡ q = omega (arith, div-add-mod' q (2 ^ d)) in
            let y : c * (2 * 2 ^ j) * 2 ^ z ≡ m * 2 ^ z =
            mul_assoc c (2 * 2 ^ j) (2 ^ z)
            ∙ ap (λ (x : ℕ). c * (x * 2 ^ z)) (sym (pow-succ' 2 j))
            ∙ ap (λ (x : ℕ). c * x) (sym (pow-add 2 (suc j) z) ∙ ap (λ (x : ℕ). 2 ^ x) s)
            ∙ w ∙ e in
            let n : c * (2 * 2 ^ j) ≡ m = le_antisymm (le_of_mul-le-mul_right (le_of_eq y) (pow_pos z)) (le_of_mul-le-mul_right (le_of_eq (sym y)) (pow_pos z)) in
            let n2 : c * (2 * 2 ^ j) ≡ 2 * (c * 2 ^ j) = mul_left_comm c 2 (2 ^ j) in
            omega arith

-- ---- together

pub odd_is : (d : ℕ) (s : Bool) (q k l : ℕ) → 0 < q → odd d s q k l ≡ fin s (q / 2 ^ count_trailing_zeros d q) (minus (k + count_trailing_zeros d q) l)
unfolding odd
odd_is d s zero k l h = absurd (omega arith)
odd_is d s (suc q) k l h = refl

-- what it takes at a leading digit
pub normal : (s : Bool) (q k : ℕ) → 2 ^ 52 ≤ q → q < 2 ^ 53 → fits binary32 (odd 53 s q k 1074) ≡ (leb 29 (count_trailing_zeros 53 q) && leb 925 (k + count_trailing_zeros 53 q) && leb k 1149)
normal s q k lo hi =
    let z : ℕ = count_trailing_zeros 53 q in
    let m : ℕ = q / 2 ^ z in
    let e : ℤ = minus (k + z) 1074 in
    let p : 0 < q = omega arith in
    let w : q ≡ m * 2 ^ z = sym (tz_div 53 q) in
    let v : m * up e * 2 ^ 1074 ≡ q * 2 ^ k * down e = rw (odd_is 53 s q k 1074 p) at (odd_val 53 s q k 1074) in
    ap (fits binary32) (odd_is 53 s q k 1074 p)
    ∙ fits_is binary32 s m e (tz_odd 53 q p hi)
    ∙ ap (λ (b : Bool). b && leb (down e) (2 ^ 149) && ltb (m * up e) (2 ^ 128 * down e)) (digits q m z w lo hi)
    ∙ ap (λ (b : Bool). leb 29 z && b && ltb (m * up e) (2 ^ 128 * down e)) (not_low (k + z))
    ∙ ap (λ (b : Bool). leb 29 z && leb 925 (k + z) && b) (not_high q k (m * up e) (down e) v (down_pos e) lo hi)
