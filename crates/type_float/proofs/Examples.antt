-- Single precision at five doubles, computed: 2 to the -149, 2 to the -150, 0.1, -0.0 and a NaN.
use mathlib.Core.Path.{◌≡◌, refl}
use mathlib.Core.Bool.{true, false}
use lib.Count.{count_trailing_zeros}
use lib.Ieee.{fits, is_nan, of_bits, of_fields, odd}
use Rattle.type_float.specs.Single.{is_single}

pub examples : (is_single 0x36A0000000000000 ≡ true)
    × (is_single 0x3690000000000000 ≡ false)
    × (is_single 0x3FB999999999999A ≡ false)
    × (is_single 0x8000000000000000 ≡ true)
    × (is_single 0x7FF8000000000000 ≡ false)
unfolding is_single of_bits of_fields odd fits is_nan count_trailing_zeros
examples = (refl, refl, refl, refl, refl)
