-- The five sizes and their words, one by one, and the code's steps between the two.
use mathlib.Core.Path.{◌≡◌, refl}
use mathlib.Core.Bool.{Bool, true, false}
use Prim.Native.Nat.{ℕ, suc}
use native.Mathlib.Omega.{arith}
use lib.IntN.{ℤ, pos, negsuc, nat_abs, ◌+ℤ◌, ◌-ℤ◌}
use lib.Dec.{eqb, T}
use lib.Signed.{non_neg}
use borrow.Author.Tests.{eqb-true, eqb-false, ne_eqb}
use mir.Syntax.{w8, w64}
use mir.Val.{Fits, SFits, to_z, of_z}
use mir.Facts.{sfits_lit, Fits-lit}
use Rattle.type_float.specs.Float.{size_from, word_of, is_size_word, is_size}

-- what a 64-bit word gives back of a number
abbrev read : ℤ → ℤ
read z = to_z w64 (of_z w64 z)

-- what holds of k, and of n where n is not k, holds of n
at : (P : ℕ → Type 0) (n k : ℕ) → P k → (eqb n k ≡ false → P n) → P n
at P n k p other = go (eqb n k) refl
  where
    go : (t : Bool) → eqb n k ≡ t → P n
    go true e = rw (eqb-true n k e) p
    go false e = other e

never : {X : Type 0} → false ≡ true → X
never h =
    let z : ◌≡◌ {A = ℕ} 0 1 = cc in
    absurd (omega arith)

not_zero : (n : ℕ) → eqb (suc n) 0 ≡ false
not_zero n = ne_eqb (suc n) 0 (λ q. omega arith)

next : (n k : ℕ) → eqb n k ≡ false → eqb (suc n) (suc k) ≡ false
next n k e = ne_eqb (suc n) (suc k) (λ q. eqb-false n k e (omega arith))

-- what holds of 0, 32, 64, 96 and 128 holds of each word of a size
pub each_word : (P : ℕ → Type 0) → P 0 → P 32 → P 64 → P 96 → P 128 → (w : ℕ) → is_size_word w ≡ true → P w
each_word P a b c d e w ok =
    at P w 0 a (λ i. at P w 32 b (λ j. at P w 64 c (λ k. at P w 96 d (λ l. at P w 128 e (λ m. never (simp (i, j, k, l, m) at ok))))))

-- what holds of -64, -32, 0, 32 and 64 holds of each size
pub each_size : (P : ℤ → Type 0) → P (negsuc 63) → P (negsuc 31) → P (pos 0) → P (pos 32) → P (pos 64) → (z : ℤ) → is_size z ≡ true → P z
each_size P a b c d e (pos n) ok =
    let Q : ℕ → Type 0 = λ k. P (pos k) in
    at Q n 0 c (λ i. at Q n 32 d (λ j. at Q n 64 e (λ k. never (simp (i, j, k) at ok))))
each_size P a b c d e (negsuc n) ok =
    let Q : ℕ → Type 0 = λ k. P (negsuc k) in
    at Q n 31 b (λ i. at Q n 63 a (λ j. never (simp (not_zero n, next n 31 i, next n 63 j) at ok)))

-- a size's word is the word of that size
pub word_size : (w : ℕ) → is_size_word w ≡ true → word_of (size_from w) ≡ w
word_size = each_word (λ w. word_of (size_from w) ≡ w) refl refl refl refl refl

-- and stands for a size
pub size_ok : (w : ℕ) → is_size_word w ≡ true → is_size (size_from w) ≡ true
size_ok = each_word (λ w. is_size (size_from w) ≡ true) refl refl refl refl refl

-- ---- from a word to its size, as the code computes it

abbrev less : ℕ → ℤ
less w = to_z w64 w -ℤ pos 64

pub word_wide : (w : ℕ) → is_size_word w ≡ true → SFits w64 (pos w)
word_wide = each_word (λ w. SFits w64 (pos w)) (sfits_lit tt) (sfits_lit tt) (sfits_lit tt) (sfits_lit tt) (sfits_lit tt)

pub less_fits : (w : ℕ) → is_size_word w ≡ true → SFits w64 (less w)
less_fits = each_word (λ w. SFits w64 (less w)) (sfits_lit tt) (sfits_lit tt) (sfits_lit tt) (sfits_lit tt) (sfits_lit tt)

pub size_fits : (w : ℕ) → is_size_word w ≡ true → SFits w8 (read (less w))
size_fits = each_word (λ w. SFits w8 (read (less w))) (sfits_lit tt) (sfits_lit tt) (sfits_lit tt) (sfits_lit tt) (sfits_lit tt)

pub size_is : (w : ℕ) → is_size_word w ≡ true → to_z w8 (of_z w8 (read (less w))) ≡ size_from w
size_is = each_word (λ w. to_z w8 (of_z w8 (read (less w))) ≡ size_from w) refl refl refl refl refl

-- ---- and from a size to its word

abbrev more : ℤ → ℤ
more z = read (to_z w8 (of_z w8 z)) +ℤ pos 64

pub size_wide : (z : ℤ) → is_size z ≡ true → SFits w64 (to_z w8 (of_z w8 z))
size_wide = each_size (λ z. SFits w64 (to_z w8 (of_z w8 z))) (sfits_lit tt) (sfits_lit tt) (sfits_lit tt) (sfits_lit tt) (sfits_lit tt)

pub more_fits : (z : ℤ) → is_size z ≡ true → SFits w64 (more z)
more_fits = each_size (λ z. SFits w64 (more z)) (sfits_lit tt) (sfits_lit tt) (sfits_lit tt) (sfits_lit tt) (sfits_lit tt)

pub word_fits : (z : ℤ) → is_size z ≡ true → T (non_neg (read (more z))) × Fits w64 (nat_abs (read (more z)))
word_fits = each_size (λ z. T (non_neg (read (more z))) × Fits w64 (nat_abs (read (more z)))) (tt, Fits-lit tt) (tt, Fits-lit tt) (tt, Fits-lit tt) (tt, Fits-lit tt) (tt, Fits-lit tt)

pub word_is : (z : ℤ) → is_size z ≡ true → nat_abs (read (more z)) ≡ word_of z
word_is = each_size (λ z. nat_abs (read (more z)) ≡ word_of z) refl refl refl refl refl
