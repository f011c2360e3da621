-- A test of a size's bits is the definition's test of the size: `z == n` is of the bits n, and `z == -n` of 256 - n. Assumes nothing.
use mathlib.Core.Path.{◌≡◌, refl, sym, ◌∙◌}
use mathlib.Core.Bool.{Bool, true, false}
use Prim.Native.Nat.{ℕ, suc, ◌-◌, ◌<◌}
use native.Mathlib.Omega.{arith}
use lib.Dec.{eqb}
use lib.IntN.{ℤ, pos, negsuc}
use borrow.Author.Tests.{eqb-true, eqb-false, eq-eqb, ne_eqb}
use mir.Syntax.{w8}
use mir.Val.{SFits, of_z}
use Rattle.type_float.specs.declared.Reading.TheVariants.{Sized}
use Rattle.float_meet.specs.FloatRule.{is_plus, is_minus, is64, is32, is_minus32, is_minus64}

-- one test for another, where they hold together
same_test : (a b c d : ℕ) → (a ≡ b → c ≡ d) → (c ≡ d → a ≡ b) → eqb a b ≡ eqb c d
same_test a b c d to back = go (eqb a b) refl
  where
    go : (t : Bool) → eqb a b ≡ t → eqb a b ≡ eqb c d
    go true e = e ∙ sym (eq-eqb c d (to (eqb-true a b e)))
    go false e = e ∙ sym (ne_eqb c d (λ q. eqb-false a b e (back q)))

module _ (n : ℕ) (low : 0 < n) (high : n < 128) where
  plus_is : (z : ℤ) → SFits w8 z → is_plus n z ≡ eqb (of_z w8 z) n
  plus_is (pos m) f = refl
  plus_is (negsuc m) f = sym (ne_eqb _ n (λ e. omega arith))

  minus_is : (z : ℤ) → SFits w8 z → is_minus n z ≡ eqb (of_z w8 z) (256 - n)
  minus_is (pos m) f = sym (ne_eqb m _ (λ e. omega arith))
  minus_is (negsuc m) f = same_test (suc m) n (256 - suc m) (256 - n) (λ e. omega arith) (λ e. omega arith)

-- the four tests of a size, on its bits a
pub record Tests (z : ℤ) (a : ℕ) : Type 0 where
  pub p64 : is64 (Sized z) ≡ eqb a 64
  pub m64 : is_minus64 (Sized z) ≡ eqb a 192
  pub p32 : is32 (Sized z) ≡ eqb a 32
  pub m32 : is_minus32 (Sized z) ≡ eqb a 224

pub tests : (z : ℤ) → SFits w8 z → Tests z (of_z w8 z)
tests z f = record {
  p64 = plus_is 64 (omega arith) (omega arith) z f;
  m64 = minus_is 64 (omega arith) (omega arith) z f;
  p32 = plus_is 32 (omega arith) (omega arith) z f;
  m32 = minus_is 32 (omega arith) (omega arith) z f;
}
