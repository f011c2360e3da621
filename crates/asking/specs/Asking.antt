-- The calls that only read, as the values that the functions take: which call each is, its rows and its answer on the used words `u`. That `run` of the call is the
-- rows and then the answer is `asked_is` (proofs/As.antt), each line by computation.
use Rattle.std.specs.Prelude.{Bool, true, false, not, cond, List, [], ◌∷◌, ℕ, eqb}
use Rattle.wellformed.specs.Entry.{is_flag}
use Rattle.call.specs.Call.{Reply, handle, number, flag, accepted, refused, signed_number, absent, constant_bits, size_alone, ◌when◌, filled_output}
use Rattle.call.specs.Handles.{types_rows}
use Rattle.words.specs.Columns.{kind_on}
use Rattle.meet.specs.Meet.{isa_of}
use Rattle.finals.specs.Final.{is_final_of}
use Rattle.of_types.specs.Tells.{of_type_rows, of_type_told}
use Rattle.of_types.specs.declared.OfType.{OfType}
use Rattle.of_types.specs.declared.OfType.TheVariants as OfType-variants
use Rattle.of_values.specs.Tells.{of_int_told, of_float_told}
use Rattle.of_values.specs.declared.OfInt.{OfInt}
use Rattle.of_values.specs.declared.OfInt.TheVariants as OfInt-variants
use Rattle.of_values.specs.declared.OfFloat.{OfFloat}
use Rattle.of_values.specs.declared.OfFloat.TheVariants as OfFloat-variants
use Rattle.struct_calls.specs.Tells.{filling_rows, filled_words, of_struct_rows, of_struct_told}
use Rattle.struct_calls.specs.declared.Filling.{Filling}
use Rattle.struct_calls.specs.declared.Filling.TheVariants as Filling-variants
use Rattle.struct_calls.specs.declared.OfStruct.{OfStruct}
use Rattle.struct_calls.specs.declared.OfStruct.TheVariants as OfStruct-variants
use Rattle.every_call.specs.Others.{int_rows, float_rows}
use Rattle.every_call.specs.Run as Run
use Rattle.asking.specs.declared.Asking.{Asking}
use Rattle.asking.specs.declared.Asking.TheVariants as Asking-variants
use Rattle.wellformed.specs.FreshHandles.{int_zero, int_one}

-- the calls that read one type, an Int, a Float or a struct
abbrev pub asked_type : OfType → ℕ → Run.Call
asked_type OfType-variants.MakeInit a = Run.make_init a
asked_type OfType-variants.MakeZero a = Run.make_zero a
asked_type OfType-variants.IsHigh a = Run.is_high_is a
asked_type OfType-variants.IsHighOrConstant a = Run.is_high_or_constant_is a
asked_type OfType-variants.IsConstant a = Run.is_constant_is a
asked_type OfType-variants.IsFref a = Run.is_fref_is a
asked_type OfType-variants.LogSize a = Run.log_size_is a

abbrev pub asked_int : OfInt → ℕ → Run.Call
asked_int OfInt-variants.Min a = Run.int_min a
asked_int OfInt-variants.Max a = Run.int_max a
asked_int OfInt-variants.Value a = Run.int_value_is a
asked_int OfInt-variants.Mask a = Run.int_mask a

abbrev pub asked_float : OfFloat → ℕ → Run.Call
asked_float OfFloat-variants.Sz a = Run.float_sz a
asked_float OfFloat-variants.IsF32 a = Run.float_is_f32 a
asked_float OfFloat-variants.Value a = Run.float_value a
asked_float OfFloat-variants.Reading a = Run.float_reading_is a

-- a call that fills an output of n words
abbrev pub asked_filling : Filling → ℕ → ℕ → Run.Call
asked_filling Filling-variants.Fields s n = Run.struct_fields s n
asked_filling Filling-variants.Offsets s n = Run.offsets s n

abbrev pub asked_struct : OfStruct → ℕ → Run.Call
asked_struct OfStruct-variants.Name s = Run.struct_name s
asked_struct (OfStruct-variants.Find name) s = Run.find s name
asked_struct (OfStruct-variants.FindAlias alias) s = Run.find_alias s alias
asked_struct OfStruct-variants.IsAry s = Run.is_ary_is s
asked_struct (OfStruct-variants.Offset i) s = Run.offset s i
asked_struct OfStruct-variants.AryBase s = Run.ary_base_is s
asked_struct OfStruct-variants.AryScale s = Run.ary_scale_is s
asked_struct (OfStruct-variants.Fill filling n) s = asked_filling filling s n

-- the call that a value is
abbrev pub asked : Asking → Run.Call
asked (Asking-variants.Kind h) = Run.kind h
asked (Asking-variants.GetBool value) = Run.get_bool value
asked (Asking-variants.Isa a b) = Run.isa a b
asked (Asking-variants.IsFinal a) = Run.is_final a
asked (Asking-variants.Type of a) = asked_type of a
asked (Asking-variants.Int of a) = asked_int of a
asked (Asking-variants.Float of a) = asked_float of a
asked (Asking-variants.Struct of s) = asked_struct of s

-- its rows, past row 1
abbrev pub rows_of : Asking → List ℕ → ℕ
rows_of (Asking-variants.Kind h) = types_rows (h ∷ [])
rows_of (Asking-variants.GetBool value) = λ u. 4 when not (is_flag value)
rows_of (Asking-variants.Isa a b) = types_rows (a ∷ b ∷ [])
rows_of (Asking-variants.IsFinal a) = types_rows (a ∷ [])
rows_of (Asking-variants.Type of a) = of_type_rows of a
rows_of (Asking-variants.Int of a) = int_rows a
rows_of (Asking-variants.Float of a) = float_rows a
rows_of (Asking-variants.Struct of s) = of_struct_rows of s

-- its answer
abbrev pub answer_of : Asking → List ℕ → Reply
answer_of (Asking-variants.Kind h) = λ u. number (kind_on u h)
answer_of (Asking-variants.GetBool value) = λ u. handle (cond (eqb value 0) int_zero int_one)
answer_of (Asking-variants.Isa a b) = λ u. flag (isa_of u a b)
answer_of (Asking-variants.IsFinal a) = λ u. flag (is_final_of u a)
answer_of (Asking-variants.Type of a) = of_type_told of a
answer_of (Asking-variants.Int of a) = of_int_told of a
answer_of (Asking-variants.Float of a) = of_float_told of a
answer_of (Asking-variants.Struct of s) = of_struct_told of s

-- what the output of a call that fills holds afterwards
abbrev pub output_of : Filling → ℕ → List ℕ → List ℕ → List ℕ
output_of filling s = filled_output (filling_rows filling s) (filled_words filling s)
