-- The size of a float that row 1 accepts is one of the five. Assumes nothing.
use mathlib.Core.Path.{◌≡◌, refl}
use mathlib.Core.Bool.{Bool, true, false, ◌&&◌, ◌||◌}
use Prim.Native.Nat.{ℕ, zero, suc, ◌*◌, ◌/◌, ◌%◌, ◌≤◌}
use native.Mathlib.Omega.{arith}
use borrow.Author.Tests.{eqb-true, leb-true}
use lib.Dec.{eqb, leb}
use Rattle.type_float.specs.Float.{is_size_word}
use Rattle.wellformed.specs.Entry.{float_ok}
use Rattle.wellformed.proofs.Bools.{and_left, and_right}

pub size_word : (size bits : ℕ) → float_ok size bits ≡ true → is_size_word size ≡ true
unfolding float_ok
size_word size bits e = go (eqb size 64) refl (eqb bits 0) e
  where
    multiple : size ≤ 128 → size % 32 ≡ 0 → is_size_word size ≡ true
    multiple h m = by (size / 32) (omega arith) (omega arith)
      where
        by : (q : ℕ) → size ≡ 32 * q → q ≤ 4 → is_size_word size ≡ true
        by zero s l = let z : size ≡ 0 = omega arith in rw z
        by (suc zero) s l = let z : size ≡ 32 = omega arith in rw z
        by (suc (suc zero)) s l = let z : size ≡ 64 = omega arith in rw z
        by (suc (suc (suc zero))) s l = let z : size ≡ 96 = omega arith in rw z
        by (suc (suc (suc (suc zero)))) s l = let z : size ≡ 128 = omega arith in rw z
        by (suc (suc (suc (suc (suc q))))) s l = absurd (omega arith)

    go : (t : Bool) → eqb size 64 ≡ t → (b : Bool) → (t || (b && (leb size 128 && eqb (size % 32) 0))) ≡ true → is_size_word size ≡ true
    go true q b f = let z : size ≡ 64 = eqb-true size 64 q in rw z
    go false q true f = multiple (leb-true size 128 (and_left (leb size 128) (eqb (size % 32) 0) f)) (eqb-true (size % 32) 0 (and_right (leb size 128) (eqb (size % 32) 0) f))
    go false q false f = let z : ◌≡◌ {A = ℕ} 0 1 = cc in absurd (omega arith)
