-- Document 01's examples of the meet of two floats, computed. Assumes nothing.
use mathlib.Core.Path.{◌≡◌, refl}
use lib.Count.{count_trailing_zeros}
use lib.IntN.{pos, negsuc}
use lib.Ieee.{fits, is_nan, binary64, of_bits, of_fields, odd}
use Rattle.type_float.specs.declared.Reading.{Reading}
use Rattle.type_float.specs.declared.Reading.TheVariants.{Constant, Sized}
use Rattle.float_meet.specs.declared.FloatMeet.TheVariants.{First, Second, Single, Double}
use Rattle.float_meet.specs.FloatRule.{float_rule}

abbrev half : Reading
half = Constant (of_bits binary64 0x3FE0000000000000)

abbrev quarter : Reading
quarter = Constant (of_bits binary64 0x3FD0000000000000)

-- 0.1, which binary32 does not hold
abbrev tenth : Reading
tenth = Constant (of_bits binary64 0x3FB999999999999A)

abbrev zero : Reading
zero = Constant (of_bits binary64 0)

abbrev minus_zero : Reading
minus_zero = Constant (of_bits binary64 0x8000000000000000)

abbrev not_aNumber : Reading
not_aNumber = Constant (of_bits binary64 0x7FF8000000000000)

pub constants : (float_rule half quarter ≡ Single)
    × (float_rule half tenth ≡ Double)
    × (float_rule zero minus_zero ≡ Single)
    × (float_rule not_aNumber half ≡ Double)
unfolding float_rule of_bits of_fields odd fits is_nan count_trailing_zeros
constants = (refl, refl, refl, refl)

pub sizes_and_constants : (float_rule (Sized (negsuc 31)) half ≡ Second)
    × (float_rule half (Sized (negsuc 31)) ≡ First)
    × (float_rule (Sized (negsuc 31)) tenth ≡ Double)
    × (float_rule (Sized (pos 32)) tenth ≡ Double)
unfolding float_rule of_bits of_fields odd fits is_nan count_trailing_zeros
sizes_and_constants = (refl, refl, refl, refl)

pub sizes : (float_rule (Sized (pos 32)) (Sized (negsuc 31)) ≡ Single)
    × (float_rule (Sized (pos 64)) (Sized (negsuc 63)) ≡ Double)
    × (float_rule (Sized (negsuc 63)) (Sized (pos 32)) ≡ Second)
    × (float_rule (Sized (negsuc 31)) (Sized (negsuc 31)) ≡ First)
unfolding float_rule
sizes = (refl, refl, refl, refl)
