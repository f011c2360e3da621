-- The calls that read one type, as the values that the functions take: the rows of each, past row 1, and its answer.
use Rattle.std.specs.Prelude.{List, [], ◌∷◌, ℕ}
use Rattle.call.specs.Call.{Reply, handle, number, flag}
use Rattle.call.specs.Handles.{types_rows}
use Rattle.of_types.specs.OfTypes.{side_of, is_high, is_high_or_constant, is_constant, is_fref, make_init_of, make_zero_of, has_zero, log_size, kind_rows, log_size_rows}
use Rattle.of_types.specs.declared.OfType.{OfType}
use Rattle.of_types.specs.declared.OfType.TheVariants as OfType-variants

abbrev pub of_type_rows : OfType → ℕ → List ℕ → ℕ
of_type_rows OfType-variants.MakeInit t = types_rows (t ∷ [])
of_type_rows OfType-variants.MakeZero t = kind_rows has_zero t
of_type_rows OfType-variants.IsHigh t = types_rows (t ∷ [])
of_type_rows OfType-variants.IsHighOrConstant t = types_rows (t ∷ [])
of_type_rows OfType-variants.IsConstant t = types_rows (t ∷ [])
of_type_rows OfType-variants.IsFref t = types_rows (t ∷ [])
of_type_rows OfType-variants.LogSize t = log_size_rows t

abbrev pub of_type_told : OfType → ℕ → List ℕ → Reply
of_type_told OfType-variants.MakeInit t = λ u. handle (make_init_of u t)
of_type_told OfType-variants.MakeZero t = λ u. handle (make_zero_of u t)
of_type_told OfType-variants.IsHigh t = λ u. flag (is_high (side_of u t))
of_type_told OfType-variants.IsHighOrConstant t = λ u. flag (is_high_or_constant (side_of u t))
of_type_told OfType-variants.IsConstant t = λ u. flag (is_constant (side_of u t))
of_type_told OfType-variants.IsFref t = λ u. flag (is_fref u t)
of_type_told OfType-variants.LogSize t = λ u. number (log_size u t)
