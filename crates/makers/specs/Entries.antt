-- The entries that the makers make: document 01's table of kinds, from a maker's arguments. `u` is the used words.
use Rattle.std.specs.Prelude.{List, [], ◌∷◌, ℕ, zero, suc, ◌+◌, ◌/◌, ◌%◌, ◌^◌, length}
use Rattle.words.specs.Kinds.{Int, Float, Tuple, Struct, Fref, MemPtr, Mem}
use Rattle.words.specs.Words.{head_of}
use Rattle.words.specs.Columns.{word, every, size_zero, flags_of}
use Rattle.call.specs.Handles.{head_around}

-- "min, max (two's complement)"; an entry that holds no type has depth 1, and n is 0
abbrev pub int_entry : ℕ → ℕ → List ℕ
int_entry min max = head_of Int 1 0 ∷ min ∷ max ∷ []

-- "sz + 64", of a size that is lent as a two's complement word
abbrev pub stored_size : ℕ → ℕ
stored_size sz = (sz + size_zero) % 2 ^ 64

-- "sz + 64, constant's bits"
abbrev pub float_entry : ℕ → ℕ → List ℕ
float_entry size bits = head_of Float 1 0 ∷ size ∷ bits ∷ []

-- "n type handles"
abbrev pub tuple_entry : List ℕ → List ℕ → List ℕ
tuple_entry types u = head_around u Tuple (length types) types ∷ types

-- "name handle"
abbrev pub fref_entry : ℕ → List ℕ
fref_entry name = head_of Fref 1 0 ∷ name ∷ []

-- "struct or forward reference handle, nil"
abbrev pub pointer_entry : ℕ → ℕ → List ℕ → List ℕ
pointer_entry to nil u = head_around u MemPtr 0 (to ∷ []) ∷ to ∷ nil ∷ []

-- "alias, type handle"
abbrev pub memory_entry : ℕ → ℕ → List ℕ → List ℕ
memory_entry alias t u = head_around u Mem 0 (t ∷ []) ∷ alias ∷ t ∷ []

-- ---- structs: "A field is lent as name, type, alias, final; an unfinished last one is not read."

-- the words of a lent field, and how many fields are finished
abbrev pub lent_size : ℕ
lent_size = 4

abbrev pub field_count : List ℕ → ℕ
field_count fs = length fs / lent_size

-- their names, types, aliases and finals
abbrev pub field_names : List ℕ → List ℕ
field_names fs = every lent_size (field_count fs) 0 fs

abbrev pub field_types : List ℕ → List ℕ
field_types fs = every lent_size (field_count fs) 1 fs

abbrev pub field_aliases : List ℕ → List ℕ
field_aliases fs = every lent_size (field_count fs) 2 fs

abbrev pub field_finals : List ℕ → List ℕ
field_finals fs = every lent_size (field_count fs) 3 fs

-- a lent field whose first word has the position p
abbrev pub lent_name : List ℕ → ℕ → ℕ
lent_name fs p = word fs p

abbrev pub lent_type : List ℕ → ℕ → ℕ
lent_type fs p = word fs (p + 1)

abbrev pub lent_alias : List ℕ → ℕ → ℕ
lent_alias fs p = word fs (p + 2)

abbrev pub lent_final : List ℕ → ℕ → ℕ
lent_final fs p = word fs (p + 3)

abbrev pub next_lent : ℕ → ℕ
next_lent p = p + lent_size

-- "n times: field name, type, 2 × alias + final", of n lent fields from position p on
unfoldable pub field_words : ℕ → ℕ → List ℕ → List ℕ
field_words zero p fs = []
field_words (suc n) p fs = lent_name fs p ∷ lent_type fs p ∷ flags_of (lent_alias fs p) (lent_final fs p) ∷ field_words n (next_lent p) fs

-- "name handle; n times: ..", around the field types
abbrev pub struct_entry : ℕ → List ℕ → List ℕ → List ℕ
struct_entry name fs u = head_around u Struct (field_count fs) (field_types fs) ∷ name ∷ field_words (field_count fs) 0 fs
