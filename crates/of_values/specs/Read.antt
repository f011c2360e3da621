-- For the functions alone: what they require of a reading that they are given.
use Rattle.std.specs.Prelude.{◌≡◌, ℕ, Float as F64}
use Rattle.std.specs.Float.{binary64}
use Rattle.std.specs.Float.Ieee.{of_bits}
use Rattle.type_float.specs.declared.Reading.{Reading}
use Rattle.type_float.specs.declared.Reading.TheVariants.{Constant}

-- a constant that was read is the one with these bits
abbrev pub ReadFrom : ℕ → Reading → Type 0
ReadFrom bits r = (x : F64) → r ≡ Constant x → x ≡ of_bits binary64 bits
