-- Document 01, "The other calls": what is told of a struct's name and fields. `u` is the used words, s a struct.
use Rattle.std.specs.Prelude.{Bool, cond, not, ◌&&◌, ◌||◌, List, [], ◌∷◌, ℕ, zero, suc, ◌+◌, eqb, Option, Some, None}
use Rattle.words.specs.Kinds.{Struct, Fref}
use Rattle.words.specs.Columns.{word, kind_on, count_on, field_names_on, flags_on, first_field, next_field, field_name_at, field_type_at, flags_at, alias_in, final_in}
use Rattle.wellformed.specs.Entry.{is_name, is_struct, is_alias}
use Rattle.names.specs.Name.{name_entry}
use Rattle.call.specs.Call.{Reply, number, absent, ◌when◌, ◌otherwise◌}
use Rattle.call.specs.Handles.{no_entry, wrong_kind}
use Rattle.makers.specs.Makers.{body_name}
use Rattle.meet_rules.specs.Names.{same_name}

-- ---- the field list

-- "A field is lent as name, type, alias, final": n fields, of which the first stands at p
unfoldable pub lent_fields : ℕ → ℕ → List ℕ → List ℕ
lent_fields zero p u = []
lent_fields (suc n) p u = field_name_at u p ∷ field_type_at u p ∷ alias_in (flags_at u p) ∷ final_in (flags_at u p) ∷ lent_fields n (next_field p) u

abbrev pub field_list : List ℕ → ℕ → List ℕ
field_list u s = lent_fields (count_on u s) (first_field s) u

-- ---- find, find_alias: "first match, or absent"

-- the place of the first of a list that p takes, counted from i on
unfoldable pub first_match : (ℕ → Bool) → ℕ → List ℕ → Option ℕ
first_match p i [] = None
first_match p i (x ∷ xs) = cond (p x) (Some i) (first_match p (suc i) xs)

-- by the name's bytes
abbrev pub find_of : List ℕ → ℕ → ℕ → Option ℕ
find_of u s name = first_match (λ x. same_name u x name) 0 (field_names_on u s)

abbrev pub find_alias_of : List ℕ → ℕ → ℕ → Option ℕ
find_alias_of u s alias = first_match (λ flags. eqb (alias_in flags) alias) 0 (flags_on u s)

-- the answer that a place is
abbrev pub placed : Option ℕ → Reply
placed (Some i) = number i
placed None = absent

-- ---- is_ary: two fields, of which the second is named "[]"

abbrev pub second_field : ℕ → ℕ
second_field s = next_field (first_field s)

-- the two words of the name's entry: its head, which counts the bytes, and the bytes
abbrev pub is_body_name : List ℕ → ℕ → Bool
is_body_name u h = eqb (word u h) (word (name_entry body_name) 0) && eqb (word u (h + 1)) (word (name_entry body_name) 1)

unfoldable pub is_ary : List ℕ → ℕ → Bool
is_ary u s = eqb (count_on u s) 2 && is_body_name u (field_name_at u (second_field s))

-- ---- rows

-- "fields wanted of a forward reference"
abbrev pub no_fields : List ℕ → ℕ → Bool
no_fields u s = eqb (kind_on u s) Fref

-- "Calls on fields .. take 8 and 9, and for 9 give 7."
unfoldable pub fields_rows : ℕ → List ℕ → ℕ
fields_rows s u =
    2 when no_entry u (s ∷ [])
    otherwise 3 when wrong_kind u is_struct (s ∷ [])
    otherwise 7 when no_fields u s

-- "other calls take name handles"
unfoldable pub find_rows : ℕ → ℕ → List ℕ → ℕ
find_rows s name u =
    2 when no_entry u (s ∷ name ∷ [])
    otherwise 3 when wrong_kind u is_struct (s ∷ []) || wrong_kind u is_name (name ∷ [])
    otherwise 7 when no_fields u s

-- "alias over 4,294,967,295"
unfoldable pub find_alias_rows : ℕ → ℕ → List ℕ → ℕ
find_alias_rows s alias u =
    2 when no_entry u (s ∷ [])
    otherwise 3 when wrong_kind u is_struct (s ∷ [])
    otherwise 4 when not (is_alias alias)
    otherwise 7 when no_fields u s

-- "`ary_base`, `ary_scale` take arrays only (3, also for a forward reference)."
abbrev pub is_array : List ℕ → ℕ → Bool
is_array u s = eqb (kind_on u s) Struct && is_ary u s

unfoldable pub array_rows : ℕ → List ℕ → ℕ
array_rows s u =
    2 when no_entry u (s ∷ [])
    otherwise 3 when not (is_array u s)
