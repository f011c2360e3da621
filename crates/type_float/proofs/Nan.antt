-- The bits of a double that is no NaN.
use mathlib.Core.Path.{◌≡◌, sym, ap, ◌∙◌}
use mathlib.Core.Bool.{Bool, false, not}
use Prim.Native.Nat.{ℕ, ◌^◌, ◌<◌}
use lib.Dec.{T}
use lib.Ieee.{Float, is_nan, binary64, of_bits, to_bits}
use lib.Ieee.Bits.{to_bits-of_bits}

-- a float that is no NaN has its own bits
pub same_bits : (x : Float) (b : ℕ) → b < 2 ^ 64 → x ≡ of_bits binary64 b → (n : Bool) → n ≡ is_nan x → n ≡ false → to_bits binary64 x ≡ b
same_bits x b h e n is f =
    let no : T (not (is_nan x)) = rw (sym is ∙ f) tt in
    ap (to_bits binary64) e ∙ to_bits-of_bits binary64 b h (rw e at no)
