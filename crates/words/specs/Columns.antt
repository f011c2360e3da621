-- Document 01, "The store", the table's column "words after the head": the words of an entry by their names. `u` is a list of words and h the position of an entry's head in it: the used words of
-- a store and a handle, or the words of an entry alone and 0. What an entry says is read by these names everywhere; a name's bytes stand in names/specs/Name.antt.
use Rattle.std.specs.Prelude.{List, [], ◌∷◌, ℕ, zero, suc, ◌+◌, ◌-◌, ◌*◌, ◌/◌, ◌%◌, get_or}
use Rattle.words.specs.Words.{kind_of, depth_of, count_of, field_size}

-- the word at a position; 0 past the end
abbrev pub word : List ℕ → ℕ → ℕ
word u p = get_or u p 0

-- n words, the first at p, s apart
unfoldable pub every : ℕ → ℕ → ℕ → List ℕ → List ℕ
every s zero p u = []
every s (suc n) p u = get_or u p 0 ∷ every s n (p + s) u

-- ---- the head: "kind + 256 × depth + 65,536 × n"

abbrev pub kind_on : List ℕ → ℕ → ℕ
kind_on u h = kind_of (word u h)

abbrev pub depth_on : List ℕ → ℕ → ℕ
depth_on u h = depth_of (word u h)

abbrev pub count_on : List ℕ → ℕ → ℕ
count_on u h = count_of (word u h)

-- ---- 5, Int: "min, max (two's complement)"

abbrev pub min_on : List ℕ → ℕ → ℕ
min_on u h = word u (h + 1)

abbrev pub max_on : List ℕ → ℕ → ℕ
max_on u h = word u (h + 2)

-- ---- 6, Float: "sz + 64, constant's bits"

abbrev pub size_on : List ℕ → ℕ → ℕ
size_on u h = word u (h + 1)

abbrev pub bits_on : List ℕ → ℕ → ℕ
bits_on u h = word u (h + 2)

-- a size is stored as sz + 64: size 0, a constant's, as 64, and -sz as 128 minus the word of sz
abbrev pub size_zero : ℕ
size_zero = 64

abbrev pub other_sign : ℕ → ℕ
other_sign size = 2 * size_zero - size

-- ---- 7, Tuple: "n type handles"

abbrev pub elements_on : List ℕ → ℕ → List ℕ
elements_on u h = every 1 (count_on u h) (h + 1) u

-- ---- 8, Struct: "name handle; n times: field name, type, 2 × alias + final"; 9, forward reference: "name handle"

abbrev pub name_on : List ℕ → ℕ → ℕ
name_on u h = word u (h + 1)

-- the words of the entry of a struct with n fields
abbrev pub struct_size : ℕ → ℕ
struct_size n = 2 + field_size * n

abbrev pub field_names_on : List ℕ → ℕ → List ℕ
field_names_on u h = every field_size (count_on u h) (h + 2) u

abbrev pub field_types_on : List ℕ → ℕ → List ℕ
field_types_on u h = every field_size (count_on u h) (h + 3) u

-- a field's flags are its word 2 × alias + final: where the first field's stand, those of the first n fields, and those of all
abbrev pub first_flags : ℕ → ℕ
first_flags h = h + 4

abbrev pub first_flags_on : List ℕ → ℕ → ℕ → List ℕ
first_flags_on u n h = every field_size n (first_flags h) u

abbrev pub flags_on : List ℕ → ℕ → List ℕ
flags_on u h = first_flags_on u (count_on u h) h

-- for the functions that go through fields: of n fields, of which the first stands at p
abbrev pub names_from : ℕ → ℕ → List ℕ → List ℕ
names_from n p u = every field_size n p u

abbrev pub types_from : ℕ → ℕ → List ℕ → List ℕ
types_from n p u = every field_size n (p + 1) u

abbrev pub flags_from : ℕ → ℕ → List ℕ → List ℕ
flags_from n p u = every field_size n (p + 2) u

-- one field after another: p is the position of a field's first word
abbrev pub first_field : ℕ → ℕ
first_field h = h + 2

abbrev pub next_field : ℕ → ℕ
next_field p = p + field_size

abbrev pub field_name_at : List ℕ → ℕ → ℕ
field_name_at u p = word u p

abbrev pub field_type_at : List ℕ → ℕ → ℕ
field_type_at u p = word u (p + 1)

abbrev pub flags_at : List ℕ → ℕ → ℕ
flags_at u p = word u (p + 2)

-- "2 × alias + final": made of the two, and taken apart
abbrev pub flags_of : ℕ → ℕ → ℕ
flags_of alias final = 2 * alias + final

abbrev pub alias_in : ℕ → ℕ
alias_in flags = flags / 2

abbrev pub final_in : ℕ → ℕ
final_in flags = flags % 2

-- ---- 10, MemPtr: "struct or forward reference handle, nil"

abbrev pub target_on : List ℕ → ℕ → ℕ
target_on u h = word u (h + 1)

abbrev pub nil_on : List ℕ → ℕ → ℕ
nil_on u h = word u (h + 2)

-- ---- 11, Mem: "alias, type handle"

abbrev pub alias_on : List ℕ → ℕ → ℕ
alias_on u h = word u (h + 1)

abbrev pub inner_on : List ℕ → ℕ → ℕ
inner_on u h = word u (h + 2)
