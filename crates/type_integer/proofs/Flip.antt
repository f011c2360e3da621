-- `-1 - z` turns -(n + 1) into n and n into -(n + 1): so the casts between words and numbers lose nothing.
use mathlib.Core.Path.{◌≡◌, refl, sym, ap, ◌∙◌}
use mathlib.Core.Bool.{true, false}
use Prim.Native.Nat.{ℕ, zero, suc, ◌+◌, ◌-◌, ◌^◌, ◌≤◌, ◌<◌}
use native.Mathlib.Omega.{arith}
use lib.Dec.{T}
use lib.IntN.{ℤ, pos, negsuc, nat_abs, ◌-ℤ◌}
use lib.Signed.{mag, lt_z, non_neg}
use borrow.Author.Tests.{le-ltb}
use mir.Syntax.{w64}
use mir.Val.{Fits, SFits, to_z, of_z}
use mir.Facts.{to_z-of_z, of_z-to_z, to_z_pos}
use Rattle.type_integer.specs.Signed.{signed, less}

flip_below : (n : ℕ) → negsuc 0 -ℤ negsuc n ≡ pos n
flip_below n =
    let e : suc n - 1 ≡ n = omega arith in
    rw (le-ltb (suc n) 1 (omega arith)) (ap pos e)

flip_above : (n : ℕ) → negsuc 0 -ℤ pos n ≡ negsuc n
flip_above zero = refl
flip_above (suc n) =
    let e : suc (0 + n) ≡ suc n = omega arith in
    ap negsuc e

below : (z : ℤ) → lt_z z (pos 0) ≡ true → z ≡ negsuc (mag z)
below (pos n) h =
    let e : false ≡ true = rw (le-ltb n 0 (omega arith)) at h in
    cc
below (negsuc n) h = refl

above : (z : ℤ) → lt_z z (pos 0) ≡ false → z ≡ pos (mag z)
above (pos n) h = refl
above (negsuc n) h = cc

-- ---- the word of a number z

module _ (z : ℤ) (f : SFits w64 z) where
  -- z as it is read back from its bits
  abbrev kept : ℤ
  kept = to_z w64 (of_z w64 z)

  module _ (h : lt_z kept (pos 0) ≡ true) where
    is_below : z ≡ negsuc (mag z)
    is_below = below z (rw (to_z-of_z f) at h)

    flipped : negsuc 0 -ℤ kept ≡ pos (mag z)
    flipped = ap (λ (y : ℤ). negsuc 0 -ℤ y) (to_z-of_z f ∙ is_below) ∙ flip_below (mag z)

    flipped_kept : to_z w64 (of_z w64 (negsuc 0 -ℤ kept)) ≡ pos (mag z)
    flipped_kept = ap (λ (y : ℤ). to_z w64 (of_z w64 y)) flipped ∙ to_z_pos w64 f.sfits

    pub flipped_fits : SFits w64 (negsuc 0 -ℤ kept)
    flipped_fits = rw flipped (record { sfits = f.sfits })

    pub below_cast : T (non_neg (to_z w64 (of_z w64 (negsuc 0 -ℤ kept)))) × Fits w64 (nat_abs (to_z w64 (of_z w64 (negsuc 0 -ℤ kept))))
    below_cast = rw flipped_kept (tt, record { fits = omega (arith, f.sfits) })

    pub below_low : nat_abs (to_z w64 (of_z w64 (negsuc 0 -ℤ kept))) ≤ 18446744073709551615
    below_low = rw flipped_kept (omega (arith, f.sfits))

    pub below_is : 18446744073709551615 - nat_abs (to_z w64 (of_z w64 (negsuc 0 -ℤ kept))) ≡ of_z w64 z
    below_is =
        let e : 18446744073709551615 - mag z ≡ 2 ^ 64 - suc (mag z) = omega (arith, f.sfits) in
        rw flipped_kept (e ∙ sym (ap (of_z w64) is_below))

  module _ (h : lt_z kept (pos 0) ≡ false) where
    is_above : z ≡ pos (mag z)
    is_above = above z (rw (to_z-of_z f) at h)

    pub above_cast : T (non_neg kept) × Fits w64 (nat_abs kept)
    above_cast = rw (to_z-of_z f ∙ is_above) (tt, record { fits = omega (arith, f.sfits) })

    pub above_is : nat_abs kept ≡ of_z w64 z
    above_is = ap nat_abs (to_z-of_z f ∙ is_above) ∙ sym (ap (of_z w64) is_above)

-- ---- the number of a word w from the half on

module _ (w : ℕ) (l : 2 ^ 63 ≤ w) (h : w < 2 ^ 64) where
  number : negsuc 0 -ℤ to_z w64 (18446744073709551615 - w) ≡ negsuc (18446744073709551615 - w)
  number = ap (λ (y : ℤ). negsuc 0 -ℤ y) (to_z_pos w64 {n = 18446744073709551615 - w} (omega arith)) ∙ flip_above (18446744073709551615 - w)

  pub number_fits : SFits w64 (negsuc 0 -ℤ to_z w64 (18446744073709551615 - w))
  number_fits = rw number (record { sfits = omega arith })

  pub number_is : to_z w64 (of_z w64 (negsuc 0 -ℤ to_z w64 (18446744073709551615 - w))) ≡ to_z w64 w
  number_is =
      let e : 18446744073709551615 - w ≡ 2 ^ 64 - suc w = omega arith in
      to_z-of_z number_fits ∙ number ∙ rw (le-ltb w (2 ^ 63) l) (ap negsuc e)

-- ---- the order of two words is that of the numbers read from them

pub same_order : (a b : ℕ) (x y : ℤ) → Fits w64 a → Fits w64 b → x ≡ signed a → y ≡ signed b → lt_z (to_z w64 (of_z w64 x)) (to_z w64 (of_z w64 y)) ≡ less a b
same_order a b x y f g d e = rw (d, e, of_z-to_z f, of_z-to_z g)
