-- Document 01, "The store": what an entry's words may be. `e` is the words of an entry, read by their names as words whose head stands at 0; `heads` gives the head of the earlier entry that a
-- handle starts.
use Rattle.std.specs.Prelude.{Bool, true, cond, ◌&&◌, ◌||◌, List, [], ◌∷◌, ℕ, ◌+◌, ◌-◌, ◌*◌, ◌/◌, ◌%◌, ◌^◌, max, length, eqb, leb}
use Rattle.words.specs.Kinds.{Name, Bot, Float, Tuple, Struct, Fref, MemPtr, Mem, last_kind}
use Rattle.words.specs.Words.{kind_of, depth_of}
use Rattle.words.specs.Columns.{word, kind_on, depth_on, count_on, size_on, bits_on, size_zero, elements_on, name_on, field_names_on, field_types_on, flags_on, flags_of, target_on, nil_on, alias_on, inner_on}

-- ---- the head

abbrev pub kind : List ℕ → ℕ
kind e = kind_on e 0

abbrev pub depth : List ℕ → ℕ
depth e = depth_on e 0

abbrev pub count : List ℕ → ℕ
count e = count_on e 0

-- "n from 0 to 255"
abbrev pub most_counted : ℕ
most_counted = 255

-- "n is 0 for the other kinds": names, tuples and structs alone count
unfoldable pub most_of : ℕ → ℕ
most_of k = cond (eqb k Name || eqb k Tuple || eqb k Struct) most_counted 0

-- "at most 32"
abbrev pub deepest_allowed : ℕ
deepest_allowed = 32

-- ---- the handles

-- the handles of names: a struct's and its fields', a forward reference's
unfoldable pub names_in : List ℕ → List ℕ
names_in e =
    cond (eqb (kind e) Struct) (name_on e 0 ∷ field_names_on e 0)
    (cond (eqb (kind e) Fref) (name_on e 0 ∷ []) [])

-- the handles of types: a tuple's elements, a struct's field types, a pointer's struct or forward reference, a memory's type
unfoldable pub types_in : List ℕ → List ℕ
types_in e =
    cond (eqb (kind e) Tuple) (elements_on e 0)
    (cond (eqb (kind e) Struct) (field_types_on e 0)
    (cond (eqb (kind e) MemPtr) (target_on e 0 ∷ [])
    (cond (eqb (kind e) Mem) (inner_on e 0 ∷ []) [])))

-- ---- "each handle starts an earlier entry of the right kind"

-- the head that is given for a handle that starts no earlier entry: 255 is no kind, so that none of the tests below takes it (`no_kind`, proofs/Examples.antt)
abbrev pub no_head : ℕ
no_head = 255

abbrev pub kind_in : ℕ → ℕ → ℕ → Bool
kind_in low high k = leb low k && leb k high

abbrev pub is_name : ℕ → Bool
is_name k = eqb k Name

-- "kinds 1 to 11"
abbrev pub is_type : ℕ → Bool
is_type = kind_in Bot last_kind

-- "struct or forward reference"
abbrev pub is_struct : ℕ → Bool
is_struct = kind_in Struct Fref

-- the kinds that an entry of kind k takes as its types
abbrev pub takes : ℕ → ℕ → Bool
takes k = cond (eqb k MemPtr) is_struct is_type

-- the head at h is of a kind that p takes
abbrev pub kind_at : (ℕ → ℕ) → (ℕ → Bool) → ℕ → Bool
kind_at heads p h = p (kind_of (heads h))

-- p holds of each
unfoldable pub all : (ℕ → Bool) → List ℕ → Bool
all p [] = true
all p (x ∷ xs) = p x && all p xs

-- ---- "Depth: names 0; others 1 + the deepest type within (0 if none)."

unfoldable pub deepest : (ℕ → ℕ) → List ℕ → ℕ
deepest heads [] = 0
deepest heads (h ∷ hs) = max (depth_of (heads h)) (deepest heads hs)

abbrev pub depth_for : (ℕ → ℕ) → List ℕ → ℕ
depth_for heads e = cond (eqb (kind e) Name) 0 (1 + deepest heads (types_in e))

-- ---- "every value is one a maker accepts"

-- a flag is 0 or 1
abbrev pub is_flag : ℕ → Bool
is_flag v = leb v 1

-- row 4: "alias over 4,294,967,295"
abbrev pub largest_alias : ℕ
largest_alias = 4294967295

abbrev pub is_alias : ℕ → Bool
is_alias v = leb v largest_alias

-- "2 × alias + final": at most that of the largest alias, final
abbrev pub is_alias_final : ℕ → Bool
is_alias_final v = leb v (flags_of largest_alias 1)

-- a float's sz + 64 is one of 0, 32, 64, 96, 128, the multiples of 32 up to 128, which are the sizes -64, -32, 0, 32, 64
abbrev pub is_stored_size : ℕ → Bool
is_stored_size size = leb size (2 * size_zero) && eqb (size % 32) 0

-- the bits are those of a constant, which has size 0, else 0
unfoldable pub float_ok : ℕ → ℕ → Bool
float_ok size bits = eqb size size_zero || (eqb bits 0 && is_stored_size size)

-- the last word of an entry, and how many of its bits a name's bytes take where they do not fill it: the n bytes stand eight a word, so that n % 8 of them are in a word that is not full
abbrev pub last_word : List ℕ → ℕ
last_word e = word e (length e - 1)

abbrev pub bits_in_last : List ℕ → ℕ
bits_in_last e = 8 * (count e % 8)

-- "zero fill": a name's bytes fill all its words, or nothing stands behind them in the last
unfoldable pub zero_filled : List ℕ → Bool
zero_filled e = eqb (bits_in_last e) 0 || eqb (last_word e / 2 ^ bits_in_last e) 0

unfoldable pub values_ok : List ℕ → Bool
values_ok e =
    cond (eqb (kind e) Name) (zero_filled e)
    (cond (eqb (kind e) Float) (float_ok (size_on e 0) (bits_on e 0))
    (cond (eqb (kind e) Struct) (all is_alias_final (flags_on e 0))
    (cond (eqb (kind e) MemPtr) (is_flag (nil_on e 0))
    (cond (eqb (kind e) Mem) (is_alias (alias_on e 0)) true))))

-- ---- an entry

unfoldable pub ok_entry : (ℕ → ℕ) → List ℕ → Bool
ok_entry heads e =
    -- a kind of the table, with an n that it may have
    leb (kind e) last_kind
    && leb (count e) (most_of (kind e))
    -- "each handle starts an earlier entry of the right kind"
    && all (kind_at heads is_name) (names_in e)
    && all (kind_at heads (takes (kind e))) (types_in e)
    -- "depth is right and at most 32"
    && eqb (depth e) (depth_for heads e)
    && leb (depth e) deepest_allowed
    -- "every value is one a maker accepts"
    && values_ok e
