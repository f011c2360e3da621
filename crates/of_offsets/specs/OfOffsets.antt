-- Document 01, "The other calls": the offsets of a struct's fields, by their log sizes. `u` is the used words, s a struct.
use Rattle.std.specs.Prelude.{Bool, not, List, map, ℕ, ltb}
use Rattle.words.specs.Columns.{word, count_on, field_types_on, field_type_at}
use Rattle.wellformed.specs.Entry.{all}
use Rattle.call.specs.Call.{◌when◌, ◌otherwise◌}
use Rattle.layout.specs.Layout.{offsets}
use Rattle.of_types.specs.OfTypes.{log_size, has_log_size}
use Rattle.of_structs.specs.OfStructs.{second_field, fields_rows, array_rows}

-- "Offsets: 8-byte fields first, then 4, 2, 1, each group in field order; one more number, the end rounded up to 8": the layout of the fields' log sizes
abbrev pub log_sizes_on : List ℕ → ℕ → List ℕ
log_sizes_on u s = map (log_size u) (field_types_on u s)

abbrev pub offsets_on : List ℕ → ℕ → List ℕ
offsets_on u s = offsets (log_sizes_on u s)

-- of one field, or, at the field count, the end
abbrev pub offset_on : List ℕ → ℕ → ℕ → ℕ
offset_on u s i = word (offsets_on u s) i

-- ---- ary_base, ary_scale: where an array's body begins, and the log size of an element

abbrev pub ary_base : List ℕ → ℕ → ℕ
ary_base u s = offset_on u s 1

abbrev pub body_on : List ℕ → ℕ → ℕ
body_on u s = field_type_at u (second_field s)

abbrev pub ary_scale : List ℕ → ℕ → ℕ
ary_scale u s = log_size u (body_on u s)

-- ---- rows

-- "no log size", of any field
abbrev pub unsized_field : List ℕ → ℕ → Bool
unsized_field u s = not (all (has_log_size u) (field_types_on u s))

abbrev pub offsets_rows : ℕ → List ℕ → ℕ
offsets_rows s u = fields_rows s u otherwise 9 when unsized_field u s

-- "offset index above the field count"
abbrev pub offset_rows : ℕ → ℕ → List ℕ → ℕ
offset_rows s i u = fields_rows s u otherwise 8 when ltb (count_on u s) i otherwise 9 when unsized_field u s

abbrev pub ary_base_rows : ℕ → List ℕ → ℕ
ary_base_rows s u = array_rows s u otherwise 9 when unsized_field u s

abbrev pub ary_scale_rows : ℕ → List ℕ → ℕ
ary_scale_rows s u = array_rows s u otherwise 9 when not (has_log_size u (body_on u s))
