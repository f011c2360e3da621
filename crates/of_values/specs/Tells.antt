-- The calls that read an Int or a Float, as the values that the functions take: the answer of each. Their rows are those of a call on this kind alone.
use Rattle.std.specs.Prelude.{List, ℕ}
use Rattle.words.specs.Columns.{min_on, max_on, bits_on}
use Rattle.call.specs.Call.{Reply, flag, signed_number}
use Rattle.type_float.specs.Single.{is_single}
use Rattle.of_values.specs.OfValues.{int_value, mask_on, sz_on, float_reading, float_value}
use Rattle.of_values.specs.declared.OfInt.{OfInt}
use Rattle.of_values.specs.declared.OfInt.TheVariants as OfInt-variants
use Rattle.of_values.specs.declared.OfFloat.{OfFloat}
use Rattle.of_values.specs.declared.OfFloat.TheVariants as OfFloat-variants

abbrev pub of_int_told : OfInt → ℕ → List ℕ → Reply
of_int_told OfInt-variants.Min t = λ u. signed_number (min_on u t)
of_int_told OfInt-variants.Max t = λ u. signed_number (max_on u t)
of_int_told OfInt-variants.Value t = λ u. int_value u t
of_int_told OfInt-variants.Mask t = λ u. signed_number (mask_on u t)

abbrev pub of_float_told : OfFloat → ℕ → List ℕ → Reply
of_float_told OfFloat-variants.Sz t = λ u. signed_number (sz_on u t)
-- "is_f32" of a size alone is yes: its bits are those of 0.0
of_float_told OfFloat-variants.IsF32 t = λ u. flag (is_single (bits_on u t))
of_float_told OfFloat-variants.Value t = λ u. float_value u t
of_float_told OfFloat-variants.Reading t = λ u. float_reading u t
