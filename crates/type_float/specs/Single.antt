-- Single precision, of a double and of its bits.
use Rattle.std.specs.Prelude.{ℕ, Bool, not, ◌&&◌, Float as F64}
use Rattle.std.specs.Float.Ieee.{fits, is_nan, of_bits}
use Rattle.std.specs.Float.{binary32, binary64}

-- "A constant (size 0) is single precision if binary32 holds its value exactly: infinities and both zeros yes, NaN no"
abbrev pub holds_single : F64 → Bool
holds_single x = fits binary32 x && not (is_nan x)

-- for the functions alone: of the double with these bits
unfoldable pub is_single : ℕ → Bool
is_single bits = holds_single (of_bits binary64 bits)
