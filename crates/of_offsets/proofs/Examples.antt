-- Offsets, computed on a fresh store with a few structs more; document 01's own example is the first. Assumes nothing.
use mathlib.Core.Path.{◌≡◌, refl}
use mathlib.Core.Bool.{true}
use mathlib.Core.List.{List, [], ◌∷◌, ◌++◌}
use Prim.Native.Nat.{ℕ}
use Rattle.words.specs.Kinds.{Struct, Fref}
use Rattle.words.specs.Words.{head_of, words_after, size_of, fills, eqs}
use Rattle.words.specs.Columns.{every}
use Rattle.words.specs.Table.{rows, entries, first_of, find_in, is_at}
use Rattle.bitset.specs.Bitset.{nowhere, also}
use Rattle.wellformed.specs.Fresh.{fresh_words}
use Rattle.wellformed.specs.Entry.{most_of, names_in, types_in, all, deepest, float_ok, zero_filled, values_ok, ok_entry}
use Rattle.wellformed.specs.Form.{all_zero, heads_at, ok_rows, ok_entries, well_formed}
use Rattle.source.specs.Packed.{of_bytes, packed}
use Rattle.names.specs.Name.{name_entry}
use Rattle.makers.specs.Entries.{int_entry}
use Rattle.layout.specs.Layout.{bytes_where, offsets_from, offsets}
use Rattle.of_types.specs.OfTypes.{int_log_size, log_size}
use Rattle.of_structs.specs.OfStructs.{is_ary, fields_rows, array_rows}
use Rattle.of_offsets.specs.OfOffsets.{offsets_on, offset_on, ary_base, ary_scale, offsets_rows, offset_rows, ary_base_rows, ary_scale_rows}

-- behind the fresh words: the names "a" (94), "b" (96), "c" (98), "d" (100) and "[]" (102), and the Int 0..7 (104), which has no log size
abbrev more : List ℕ
more = 65536 ∷ 97 ∷ 65536 ∷ 98 ∷ 65536 ∷ 99 ∷ 65536 ∷ 100 ∷ 131072 ∷ 23899 ∷ int_entry 0 7

-- "fields u8, Int 25, u16, 88" (107)
abbrev four : List ℕ
four = head_of Struct 3 4 ∷ 94 ∷ 94 ∷ 40 ∷ 0 ∷ 96 ∷ 25 ∷ 2 ∷ 98 ∷ 43 ∷ 4 ∷ 100 ∷ 88 ∷ 6 ∷ []

-- an array of u16 (121), one of Top (129), which has no log size, and one of u16 whose length has no log size (137)
abbrev arrays : List ℕ
arrays = (head_of Struct 2 2 ∷ 96 ∷ 94 ∷ 25 ∷ 0 ∷ 102 ∷ 43 ∷ 2 ∷ []) ++ (head_of Struct 2 2 ∷ 98 ∷ 94 ∷ 25 ∷ 0 ∷ 102 ∷ 6 ∷ 2 ∷ []) ++ (head_of Struct 2 2 ∷ 100 ∷ 94 ∷ 104 ∷ 0 ∷ 102 ∷ 43 ∷ 2 ∷ [])

-- and a forward reference (145)
abbrev u : List ℕ
u = (147 ∷ fresh_words) ++ more ++ four ++ arrays ++ (head_of Fref 1 0 ∷ 94 ∷ [])

-- row 1 passes these words
pub a_store : well_formed u ≡ true
unfolding well_formed ok_entries ok_rows ok_entry all_zero heads_at nowhere also most_of every names_in types_in all deepest float_ok zero_filled values_ok fills eqs rows entries size_of words_after fresh_words find_in first_of is_at
a_store = refl

-- "fields u8, Int 25, u16, 88: offsets 14, 0, 12, 8, 16"; $TOP (18) has no fields, and its end is 0
pub laid_out_fields : (offsets_on u 107 ≡ 14 ∷ 0 ∷ 12 ∷ 8 ∷ 16 ∷ []) × (offsets_on u 18 ≡ 0 ∷ [])
unfolding offsets offsets_from bytes_where every log_size int_log_size fresh_words
laid_out_fields = (refl, refl)

-- one of them, and the end
pub one_offset : (offset_on u 107 0 ≡ 14) × (offset_on u 107 3 ≡ 8) × (offset_on u 107 4 ≡ 16) × (offset_on u 18 0 ≡ 0)
unfolding offsets offsets_from bytes_where every log_size int_log_size fresh_words
one_offset = (refl, refl, refl, refl)

-- an array's body begins behind its length; an element of u16 has log size 1
pub of_an_array : (ary_base u 121 ≡ 8) × (ary_scale u 121 ≡ 1)
unfolding offsets offsets_from bytes_where every log_size int_log_size fresh_words
of_an_array = (refl, refl)

-- rows: no entry, the wrong kind, fields wanted of a forward reference, a field without a log size
pub turned_back : (offsets_rows 107 u ≡ 0) × (offsets_rows 108 u ≡ 2) × (offsets_rows 104 u ≡ 3) × (offsets_rows 145 u ≡ 7) × (offsets_rows 129 u ≡ 9)
unfolding fields_rows all every rows entries is_at size_of words_after log_size int_log_size fresh_words
turned_back = (refl, refl, refl, refl, refl)

-- the field count itself is taken, for the end; row 8 is before row 9
pub one_turned_back : (offset_rows 107 4 u ≡ 0) × (offset_rows 107 5 u ≡ 8) × (offset_rows 129 3 u ≡ 8) × (offset_rows 129 2 u ≡ 9)
unfolding fields_rows all every rows entries is_at size_of words_after log_size int_log_size fresh_words
one_turned_back = (refl, refl, refl, refl)

-- where the body begins depends on both fields; the scale on the element alone
pub array_turned_back : (ary_base_rows 121 u ≡ 0) × (ary_base_rows 107 u ≡ 3) × (ary_base_rows 145 u ≡ 3) × (ary_base_rows 129 u ≡ 9) × (ary_base_rows 137 u ≡ 9)
    × (ary_scale_rows 121 u ≡ 0) × (ary_scale_rows 107 u ≡ 3) × (ary_scale_rows 129 u ≡ 9) × (ary_scale_rows 137 u ≡ 0)
unfolding array_rows is_ary all every rows entries is_at size_of words_after log_size int_log_size fresh_words name_entry packed of_bytes
array_turned_back = (refl, refl, refl, refl, refl, refl, refl, refl, refl)
