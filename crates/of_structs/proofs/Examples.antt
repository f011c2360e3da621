-- What is told of structs, computed on a few words. Assumes nothing.
use mathlib.Core.Path.{◌≡◌, refl}
use mathlib.Core.Bool.{true, false}
use mathlib.Core.List.{List, [], ◌∷◌, ◌++◌}
use Prim.Native.Nat.{ℕ}
use Rattle.words.specs.Kinds.{Struct, Fref}
use Rattle.words.specs.Words.{head_of, words_after, size_of}
use Rattle.words.specs.Columns.{every}
use Rattle.words.specs.Table.{rows, entries, is_at}
use Rattle.wellformed.specs.Entry.{all}
use Rattle.source.specs.Packed.{of_bytes, packed}
use Rattle.names.specs.Name.{name_entry}
use Rattle.makers.specs.Makers.{body_name}
use Rattle.meet_rules.specs.Names.{same_words}
use Rattle.std.proofs.Common.{Some, None}
use Rattle.of_structs.specs.OfStructs.{lent_fields, field_list, first_match, find_of, find_alias_of, is_ary, fields_rows, find_rows, find_alias_rows, array_rows}

-- behind the count of the words: the names "a" (1), "b" (3), "a" once more (5) and "[]" (7), and Bot (9)
abbrev names : List ℕ
names = 28 ∷ 65536 ∷ 97 ∷ 65536 ∷ 98 ∷ 65536 ∷ 97 ∷ 131072 ∷ 23899 ∷ 257 ∷ []

-- structs named "b": one with two fields named "a", the first with alias 7 and final, the second with alias 8 (10), and an array, with the fields "b" and "[]" (18); and a forward reference (26)
abbrev u : List ℕ
u = names ++ (head_of Struct 2 2 ∷ 3 ∷ 1 ∷ 9 ∷ 15 ∷ 5 ∷ 9 ∷ 16 ∷ []) ++ (head_of Struct 2 2 ∷ 3 ∷ 3 ∷ 9 ∷ 4 ∷ 7 ∷ 9 ∷ 6 ∷ []) ++ (head_of Fref 1 0 ∷ 3 ∷ [])

-- "name, type, alias, final"; a forward reference has none
pub listed : (field_list u 10 ≡ 1 ∷ 9 ∷ 7 ∷ 1 ∷ 5 ∷ 9 ∷ 8 ∷ 0 ∷ []) × (field_list u 26 ≡ [])
unfolding lent_fields
listed = (refl, refl)

-- "first match, or absent", by the name's bytes: both fields are named "a", and the first is found by either handle
pub found : (find_of u 10 1 ≡ Some 0) × (find_of u 10 5 ≡ Some 0) × (find_of u 10 3 ≡ None) × (find_of u 18 3 ≡ Some 0) × (find_of u 18 7 ≡ Some 1)
unfolding first_match every same_words size_of words_after
found = (refl, refl, refl, refl, refl)

pub found_by_alias : (find_alias_of u 10 7 ≡ Some 0) × (find_alias_of u 10 8 ≡ Some 1) × (find_alias_of u 10 15 ≡ None)
unfolding first_match every
found_by_alias = (refl, refl, refl)

-- the name "[]" makes the array: its entry is the two words at 7
pub arrays : (name_entry body_name ≡ 131072 ∷ 23899 ∷ []) × (is_ary u 18 ≡ true) × (is_ary u 10 ≡ false) × (is_ary u 26 ≡ false)
unfolding is_ary name_entry packed of_bytes
arrays = (refl, refl, refl, refl)

-- rows: no entry, the wrong kind, fields wanted of a forward reference; the lowest that applies is given
pub turned_back : (fields_rows 10 u ≡ 0) × (fields_rows 11 u ≡ 2) × (fields_rows 9 u ≡ 3) × (fields_rows 26 u ≡ 7)
unfolding fields_rows all rows entries is_at size_of words_after
turned_back = (refl, refl, refl, refl)

pub find_turned_back : (find_rows 10 1 u ≡ 0) × (find_rows 26 2 u ≡ 2) × (find_rows 26 9 u ≡ 3) × (find_rows 26 1 u ≡ 7)
unfolding find_rows all rows entries is_at size_of words_after
find_turned_back = (refl, refl, refl, refl)

pub alias_turned_back : (find_alias_rows 10 4294967295 u ≡ 0) × (find_alias_rows 9 4294967296 u ≡ 3) × (find_alias_rows 26 4294967296 u ≡ 4) × (find_alias_rows 26 1 u ≡ 7)
unfolding find_alias_rows all rows entries is_at size_of words_after
alias_turned_back = (refl, refl, refl, refl)

pub array_turned_back : (array_rows 18 u ≡ 0) × (array_rows 19 u ≡ 2) × (array_rows 10 u ≡ 3) × (array_rows 26 u ≡ 3)
unfolding array_rows is_ary all rows entries is_at size_of words_after name_entry packed of_bytes
array_turned_back = (refl, refl, refl, refl)
