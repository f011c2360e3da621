-- What is told of some Ints and Floats, computed. Assumes nothing.
use mathlib.Core.Path.{◌≡◌, refl}
use mathlib.Core.List.{List, [], ◌∷◌}
use Prim.Native.Nat.{ℕ, ◌-◌, ◌^◌}
use Rattle.call.specs.Call.{number, signed_number, absent, constant_bits, size_alone}
use Rattle.mask.specs.Mask.{agreed}
use Rattle.of_values.specs.OfValues.{int_value, mask_on, sz_on, float_reading, float_value}

-- -1..-1 at 0 and 16..18 at 3; the constant -0.0 at 6 and the size -64 at 9
abbrev told : List ℕ
told = 261 ∷ (2 ^ 64 - 1) ∷ (2 ^ 64 - 1) ∷ 261 ∷ 16 ∷ 18 ∷ 262 ∷ 64 ∷ 2 ^ 63 ∷ 262 ∷ 0 ∷ 0 ∷ []

pub values : (int_value told 0 ≡ signed_number (2 ^ 64 - 1)) × (int_value told 3 ≡ absent) × (mask_on told 0 ≡ 2 ^ 64 - 1) × (mask_on told 3 ≡ 19)
unfolding int_value agreed
values = (refl, refl, refl, refl)

-- -0.0 is not read as 0.0
pub readings : (float_reading told 6 ≡ constant_bits (2 ^ 63)) × (float_reading told 9 ≡ size_alone (2 ^ 64 - 64)) × (float_value told 6 ≡ number (2 ^ 63)) × (float_value told 9 ≡ absent) × (sz_on told 6 ≡ 0) × (sz_on told 9 ≡ 2 ^ 64 - 64)
readings = (refl, refl, refl, refl, refl, refl)
