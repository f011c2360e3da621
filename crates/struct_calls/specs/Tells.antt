-- The calls that read a struct, as the values that the functions take: the rows of each, past row 1, and its answer. A call that fills a lent output of n words has n
-- beside it.
use Rattle.std.specs.Prelude.{List, ℕ, length}
use Rattle.words.specs.Columns.{name_on}
use Rattle.wellformed.specs.Entry.{is_struct}
use Rattle.call.specs.Call.{Reply, handle, number, flag, output_rows}
use Rattle.of_types.specs.OfTypes.{kind_rows}
use Rattle.of_structs.specs.OfStructs.{field_list, find_of, find_alias_of, placed, is_ary, fields_rows, find_rows, find_alias_rows}
use Rattle.of_offsets.specs.OfOffsets.{offsets_on, offset_on, ary_base, ary_scale, offsets_rows, offset_rows, ary_base_rows, ary_scale_rows}
use Rattle.struct_calls.specs.declared.Filling.{Filling}
use Rattle.struct_calls.specs.declared.Filling.TheVariants as Filling-variants
use Rattle.struct_calls.specs.declared.OfStruct.{OfStruct}
use Rattle.struct_calls.specs.declared.OfStruct.TheVariants as OfStruct-variants

-- the rows of a call that fills, before row 11, and the words that it fills in
abbrev pub filling_rows : Filling → ℕ → List ℕ → ℕ
filling_rows Filling-variants.Fields s = fields_rows s
filling_rows Filling-variants.Offsets s = offsets_rows s

abbrev pub filled_words : Filling → ℕ → List ℕ → List ℕ
filled_words Filling-variants.Fields s = λ u. field_list u s
filled_words Filling-variants.Offsets s = λ u. offsets_on u s

abbrev pub of_struct_rows : OfStruct → ℕ → List ℕ → ℕ
of_struct_rows OfStruct-variants.Name s = kind_rows is_struct s
of_struct_rows (OfStruct-variants.Find name) s = find_rows s name
of_struct_rows (OfStruct-variants.FindAlias alias) s = find_alias_rows s alias
of_struct_rows OfStruct-variants.IsAry s = fields_rows s
of_struct_rows (OfStruct-variants.Offset i) s = offset_rows s i
of_struct_rows OfStruct-variants.AryBase s = ary_base_rows s
of_struct_rows OfStruct-variants.AryScale s = ary_scale_rows s
of_struct_rows (OfStruct-variants.Fill filling n) s = output_rows (filling_rows filling s) (filled_words filling s) n

abbrev pub of_struct_told : OfStruct → ℕ → List ℕ → Reply
of_struct_told OfStruct-variants.Name s = λ u. handle (name_on u s)
of_struct_told (OfStruct-variants.Find name) s = λ u. placed (find_of u s name)
of_struct_told (OfStruct-variants.FindAlias alias) s = λ u. placed (find_alias_of u s alias)
of_struct_told OfStruct-variants.IsAry s = λ u. flag (is_ary u s)
of_struct_told (OfStruct-variants.Offset i) s = λ u. number (offset_on u s i)
of_struct_told OfStruct-variants.AryBase s = λ u. number (ary_base u s)
of_struct_told OfStruct-variants.AryScale s = λ u. number (ary_scale u s)
of_struct_told (OfStruct-variants.Fill filling n) s = λ u. number (length (filled_words filling s u))
