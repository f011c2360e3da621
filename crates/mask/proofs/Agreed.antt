-- `agreed` by the highest bit in which two numbers differ.
use Rattle.std.proofs.Common.{◌≡◌, ℕ, zero, suc, ◌+◌, ◌*◌, ◌/◌, ◌^◌, ◌<◌, Bool, true, false, cond, eqb, sym, refl, ap, ◌∙◌, mul_left_comm, arith, eq-eqb, ne_eqb}
use native.Mathlib.Nat.{pow-succ', div-div-eq-div-mul}
use Rattle.mask.specs.Mask.{agreed}

-- shifted by one more, or by one first
pub half_first : (a k : ℕ) → a / 2 ^ suc k ≡ a / 2 / 2 ^ k
half_first a k = ap (λ (x : ℕ). a / x) (pow-succ' 2 k) ∙ sym (div-div-eq-div-mul a 2 (2 ^ k))

pub agreed_same : (n a : ℕ) → agreed n a a ≡ a
unfolding agreed
agreed_same zero a = refl
agreed_same (suc n) a = rw (eq-eqb a a refl)

agreed_more : (n a b : ℕ) → (a ≡ b → ⊥) → agreed (suc n) a b ≡ 1 + 2 * agreed n (a / 2) (b / 2)
unfolding agreed
agreed_more n a b d = rw (ne_eqb a b d)

-- they differ in bit j and in none above it: one more than the ones from there down is a carry into the bits above
pub agreed_at : (j n a b : ℕ) → j < n → a / 2 ^ suc j ≡ b / 2 ^ suc j → (a / 2 ^ j ≡ b / 2 ^ j → ⊥) → suc (agreed n a b) ≡ suc (a / 2 ^ suc j) * 2 ^ suc j
agreed_at j zero a b h e d = absurd (omega arith)
agreed_at zero (suc n) a b h e d =
    let f : a / 2 ≡ b / 2 = e in
    let m = agreed_more n a b (λ q. d (ap (λ (x : ℕ). x / 1) q)) in
    let s : agreed n (a / 2) (b / 2) ≡ a / 2 = ap (agreed n (a / 2)) (sym f) ∙ agreed_same n (a / 2) in
    omega arith
agreed_at (suc j) (suc n) a b h e d =
    let m = agreed_more n a b (λ q. d (ap (λ (x : ℕ). x / 2 ^ suc j) q)) in
    let x : ℕ = agreed n (a / 2) (b / 2) in
    let up : a / 2 / 2 ^ suc j ≡ b / 2 / 2 ^ suc j = sym (half_first a (suc j)) ∙ e ∙ half_first b (suc j) in
    let ih = agreed_at j n (a / 2) (b / 2) (omega arith) up (λ q. d (half_first a j ∙ q ∙ sym (half_first b j))) in
    let t : suc (agreed (suc n) a b) ≡ 2 * suc x = omega arith in
    t ∙ ap (λ (y : ℕ). 2 * y) ih
    ∙ mul_left_comm 2 (suc (a / 2 / 2 ^ suc j)) (2 ^ suc j)
    ∙ ap (λ (y : ℕ). suc (a / 2 / 2 ^ suc j) * y) (sym (pow-succ' 2 (suc j)))
    ∙ ap (λ (y : ℕ). suc y * 2 ^ suc (suc j)) (sym (half_first a (suc j)))

-- no bits but the n that are there
pub agreed_fits : (n a b : ℕ) → a < 2 ^ n → agreed n a b < 2 ^ n
unfolding agreed
agreed_fits zero a b h = h
agreed_fits (suc n) a b h = go (eqb a b) (λ l. agreed_fits n (a / 2) (b / 2) l)
  where
    go : (t : Bool) → (a / 2 < 2 ^ n → agreed n (a / 2) (b / 2) < 2 ^ n) → cond t a (1 + 2 * agreed n (a / 2) (b / 2)) < 2 ^ suc n
    go true ih = h
    go false ih =
        let p : 2 ^ suc n ≡ 2 * 2 ^ n = pow-succ' 2 n in
        let r = ih (omega arith) in
        omega arith
