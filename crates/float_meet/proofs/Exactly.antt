-- Whether binary32 holds a double, asked of its bits: a NaN has none of its own, any other double is the one with its bits. Assumes nothing.
use mathlib.Core.Path.{◌≡◌, ◌∙◌}
use mathlib.Core.Bool.{Bool, true}
use lib.Ieee.{Float, fits, binary64, of_bits, to_bits}
use lib.Ieee.Bits.{of_bits-to_bits}
use Rattle.type_float.specs.Single.{holds_single, is_single}

module _ (x : Float) where
  pub by_bits : fits binary64 x ≡ true → (r : Bool) → r ≡ is_single (to_bits binary64 x) → r ≡ holds_single x
  unfolding is_single
  by_bits held r is =
      let q : of_bits binary64 (to_bits binary64 x) ≡ x = of_bits-to_bits binary64 x (rw held tt) in
      is ∙ rw q
