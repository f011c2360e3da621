-- Document 01, "type_float.rs, type_integer.rs": what is told of an Int and of a Float. `u` is the used words, t the type.
use Rattle.std.specs.Prelude.{cond, List, ℕ, eqb}
use Rattle.std.specs.Int.{w64}
use Rattle.std.proofs.Common.{of_z}
use Rattle.words.specs.Columns.{min_on, max_on, size_on, bits_on}
use Rattle.call.specs.Call.{Reply, number, signed_number, absent, constant_bits, size_alone}
use Rattle.type_float.specs.Float.{size_from}
use Rattle.type_float.specs.declared.Reading.{Reading}
use Rattle.type_float.specs.declared.Reading.TheVariants.{Constant, Sized}
use Rattle.meet_rules.specs.Rules.{reading_on}
use Rattle.mask.specs.Mask.{mask_of}

-- ---- of an Int

-- the value of a constant, whose ends are one number
unfoldable pub int_value : List ℕ → ℕ → Reply
int_value u t = cond (eqb (min_on u t) (max_on u t)) (signed_number (min_on u t)) absent

abbrev pub mask_on : List ℕ → ℕ → ℕ
mask_on u t = mask_of (min_on u t) (max_on u t)

-- ---- of a Float

-- the size, as a two's complement word
abbrev pub sz_on : List ℕ → ℕ → ℕ
sz_on u t = of_z w64 (size_from (size_on u t))

-- "A reading of a float is a constant with its value, or a size alone": the constant's value is told as its bits
abbrev pub reading_is : ℕ → Reading → Reply
reading_is bits (Constant x) = constant_bits bits
reading_is bits (Sized sz) = size_alone (of_z w64 sz)

abbrev pub float_reading : List ℕ → ℕ → Reply
float_reading u t = reading_is (bits_on u t) (reading_on u t)

-- the value of a constant
abbrev pub value_is : ℕ → Reading → Reply
value_is bits (Constant x) = number bits
value_is bits (Sized sz) = absent

abbrev pub float_value : List ℕ → ℕ → Reply
float_value u t = value_is (bits_on u t) (reading_on u t)
