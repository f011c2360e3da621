-- Document 01, "The other calls", and the calls of `TyInt`, `TyFloat` and `TyStruct`: each a function from its arguments and the words to the reply and the words. Where nothing else is said, a
-- call is "as the Rust".
use Rattle.std.specs.Prelude.{List, [], ◌∷◌, ℕ}
use Rattle.words.specs.Kinds.{Int, Float}
use Rattle.words.specs.Columns.{min_on, max_on, bits_on, name_on}
use Rattle.wellformed.specs.Entry.{kind_in, is_struct}
use Rattle.call.specs.Call.{Outcome, handle, number, flag, signed_number, call, ask, fill, filled_output}
use Rattle.call.specs.Handles.{types_rows}
use Rattle.type_float.specs.Single.{is_single}
use Rattle.of_types.specs.OfTypes.{side_of, is_high, is_high_or_constant, is_constant, is_fref, make_init_of, make_zero_of, has_zero, log_size, kind_rows, log_size_rows}
use Rattle.of_values.specs.OfValues.{int_value, mask_on, sz_on, float_reading, float_value}
use Rattle.of_structs.specs.OfStructs.{field_list, find_of, find_alias_of, placed, is_ary, fields_rows, find_rows, find_alias_rows}
use Rattle.of_offsets.specs.OfOffsets.{offsets_on, offset_on, ary_base, ary_scale, offsets_rows, offset_rows, ary_base_rows, ary_scale_rows}
use Rattle.every_call.specs.NonZero.{non_zero_of}

-- ---- of a type: "Calls on types take kinds 1 to 11, unless said otherwise."

abbrev pub make_init_call : ℕ → List ℕ → Outcome
make_init_call a = ask (types_rows (a ∷ [])) (λ u. handle (make_init_of u a))

-- "(Int, Float, pointer; else 3)"
abbrev pub make_zero_call : ℕ → List ℕ → Outcome
make_zero_call a = ask (kind_rows has_zero a) (λ u. handle (make_zero_of u a))

abbrev pub non_zero_call : ℕ → List ℕ → Outcome
non_zero_call a = call (types_rows (a ∷ [])) (λ u. non_zero_of u a)

abbrev pub is_high_call : ℕ → List ℕ → Outcome
is_high_call a = ask (types_rows (a ∷ [])) (λ u. flag (is_high (side_of u a)))

abbrev pub is_high_or_constant_call : ℕ → List ℕ → Outcome
is_high_or_constant_call a = ask (types_rows (a ∷ [])) (λ u. flag (is_high_or_constant (side_of u a)))

abbrev pub is_constant_call : ℕ → List ℕ → Outcome
is_constant_call a = ask (types_rows (a ∷ [])) (λ u. flag (is_constant (side_of u a)))

abbrev pub is_fref_call : ℕ → List ℕ → Outcome
is_fref_call a = ask (types_rows (a ∷ [])) (λ u. flag (is_fref u a))

-- "all others 9"
abbrev pub log_size_call : ℕ → List ℕ → Outcome
log_size_call a = ask (log_size_rows a) (λ u. number (log_size u a))

-- ---- of an Int: signed numbers, as two's complement words

abbrev pub int_rows : ℕ → List ℕ → ℕ
int_rows a = kind_rows (kind_in Int Int) a

abbrev pub int_min_call : ℕ → List ℕ → Outcome
int_min_call a = ask (int_rows a) (λ u. signed_number (min_on u a))

abbrev pub int_max_call : ℕ → List ℕ → Outcome
int_max_call a = ask (int_rows a) (λ u. signed_number (max_on u a))

abbrev pub int_value_call : ℕ → List ℕ → Outcome
int_value_call a = ask (int_rows a) (λ u. int_value u a)

-- "bit k is 1 exactly if some number of the range has bit k; high ranges 0": `mask_bit`, mask/proofs/Bits.antt
abbrev pub int_mask_call : ℕ → List ℕ → Outcome
int_mask_call a = ask (int_rows a) (λ u. signed_number (mask_on u a))

-- ---- of a Float

abbrev pub float_rows : ℕ → List ℕ → ℕ
float_rows a = kind_rows (kind_in Float Float) a

abbrev pub float_sz_call : ℕ → List ℕ → Outcome
float_sz_call a = ask (float_rows a) (λ u. signed_number (sz_on u a))

-- "A constant (size 0) is single precision if binary32 holds its value exactly"; of a size alone the bits are those of 0.0
abbrev pub float_is_f32_call : ℕ → List ℕ → Outcome
float_is_f32_call a = ask (float_rows a) (λ u. flag (is_single (bits_on u a)))

abbrev pub float_value_call : ℕ → List ℕ → Outcome
float_value_call a = ask (float_rows a) (λ u. float_value u a)

abbrev pub float_reading_call : ℕ → List ℕ → Outcome
float_reading_call a = ask (float_rows a) (λ u. float_reading u a)

-- ---- of a struct

-- a forward reference has a name too
abbrev pub struct_name_call : ℕ → List ℕ → Outcome
struct_name_call s = ask (kind_rows is_struct s) (λ u. handle (name_on u s))

-- the field list, into an output of n words
abbrev pub struct_fields_call : ℕ → ℕ → List ℕ → Outcome
struct_fields_call s n = fill (fields_rows s) (λ u. field_list u s) n

abbrev pub find_call : ℕ → ℕ → List ℕ → Outcome
find_call s name = ask (find_rows s name) (λ u. placed (find_of u s name))

abbrev pub find_alias_call : ℕ → ℕ → List ℕ → Outcome
find_alias_call s alias = ask (find_alias_rows s alias) (λ u. placed (find_alias_of u s alias))

abbrev pub is_ary_call : ℕ → List ℕ → Outcome
is_ary_call s = ask (fields_rows s) (λ u. flag (is_ary u s))

abbrev pub offset_call : ℕ → ℕ → List ℕ → Outcome
offset_call s i = ask (offset_rows s i) (λ u. number (offset_on u s i))

-- all offsets and the end, into an output of n words
abbrev pub offsets_call : ℕ → ℕ → List ℕ → Outcome
offsets_call s n = fill (offsets_rows s) (λ u. offsets_on u s) n

abbrev pub ary_base_call : ℕ → List ℕ → Outcome
ary_base_call s = ask (ary_base_rows s) (λ u. number (ary_base u s))

abbrev pub ary_scale_call : ℕ → List ℕ → Outcome
ary_scale_call s = ask (ary_scale_rows s) (λ u. number (ary_scale u s))

-- ---- what the lent output of the two calls holds afterwards

abbrev pub struct_fields_output : ℕ → List ℕ → List ℕ → List ℕ
struct_fields_output s = filled_output (fields_rows s) (λ u. field_list u s)

abbrev pub offsets_output : ℕ → List ℕ → List ℕ → List ℕ
offsets_output s = filled_output (offsets_rows s) (λ u. offsets_on u s)
