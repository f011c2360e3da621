-- Document 01, "Modules", types.rs: the makers, each a function from its arguments and the words to the reply and the words. Numbers are
-- 64-bit words; a signed one is two's complement.
use Rattle.std.specs.Prelude.{Bool, true, false, not, cond, ◌&&◌, ◌||◌, List, [], ◌∷◌, ◌++◌, ℕ, ◌-◌, ◌%◌, length, replicate, eqb, ltb}
use Rattle.words.specs.Kinds.{Int, MemPtr}
use Rattle.words.specs.Made.{Grown, make}
use Rattle.wellformed.specs.Fresh.{fresh_length, fresh_words}
use Rattle.wellformed.specs.FreshHandles.{int_zero, int_one}
use Rattle.wellformed.specs.Form.{right_length}
use Rattle.wellformed.specs.Entry.{most_counted, kind_in, is_name, is_type, is_struct, is_flag, is_alias, float_ok, all}
use Rattle.call.specs.Call.{Outcome, left, handle, number, accepted, refused, ◌when◌, ◌otherwise◌, call, ask}
use Rattle.call.specs.Handles.{no_entry, wrong_kind, types_rows, too_deep}
use Rattle.words.specs.Columns.{kind_on, nil_on}
use Rattle.names.specs.Name.{name_entry, open_bracket, close_bracket, wrapped}
use Rattle.makers.specs.Entries.{int_entry, stored_size, float_entry, tuple_entry, fref_entry, pointer_entry, memory_entry, lent_size, field_count, field_names, field_types, field_aliases, field_finals, struct_entry}

-- ---- a fresh store: "One call writes a fresh store into a lent list and zeroes the rest; of row 1 it tests the length only"

abbrev pub fresh_store : ℕ → List ℕ
fresh_store n = (fresh_length ∷ fresh_words) ++ replicate (n - fresh_length) 0

abbrev pub filled : Bool → List ℕ → Outcome
filled true ws = left accepted (fresh_store (length ws))
filled false ws = left (refused 1) ws

unfoldable pub fresh_call : List ℕ → Outcome
fresh_call ws = filled (right_length ws) ws

-- ---- the kind of a type, which stands for the Rust's casts

abbrev pub kind_call : ℕ → List ℕ → Outcome
kind_call h = ask (types_rows (h ∷ [])) (λ u. number (kind_on u h))

-- ---- get_bool, get_int, make_int

-- false and true are the Ints 0..0 and 1..1 of the fresh store
abbrev pub get_bool_call : ℕ → List ℕ → Outcome
get_bool_call value = ask (λ u. 4 when not (is_flag value)) (λ u. handle (cond (eqb value 0) int_zero int_one))

abbrev pub make_int_call : ℕ → ℕ → List ℕ → Outcome
make_int_call min max = call (λ u. 0) (λ u. make u (int_entry min max))

abbrev pub get_int_call : ℕ → List ℕ → Outcome
get_int_call value = make_int_call value value

-- ---- get_float, make_float

-- "float size not 0, ±32, ±64; size not 0 with bits not 0"
abbrev pub make_float_call : ℕ → ℕ → List ℕ → Outcome
make_float_call sz bits = call (λ u. 4 when not (float_ok (stored_size sz) bits)) (λ u. make u (float_entry (stored_size sz) bits))

abbrev pub get_float_call : ℕ → List ℕ → Outcome
get_float_call bits = make_float_call 0 bits

-- ---- get_tuple

unfoldable pub tuple_rows : List ℕ → List ℕ → ℕ
tuple_rows types u =
    2 when no_entry u types
    otherwise 3 when wrong_kind u is_type types
    otherwise 5 when ltb most_counted (length types)
    otherwise 6 when too_deep u types

abbrev pub get_tuple_call : List ℕ → List ℕ → Outcome
get_tuple_call types = call (tuple_rows types) (λ u. make u (tuple_entry types u))

-- ---- get_str: a name of these bytes

abbrev pub get_str_call : List ℕ → List ℕ → Outcome
get_str_call name = call (λ u. 5 when ltb most_counted (length name)) (λ u. make u (name_entry name))

-- ---- make_struct_fref

unfoldable pub fref_rows : ℕ → List ℕ → ℕ
fref_rows name u =
    2 when no_entry u (name ∷ [])
    otherwise 3 when wrong_kind u is_name (name ∷ [])

abbrev pub make_struct_fref_call : ℕ → List ℕ → Outcome
make_struct_fref_call name = call (fref_rows name) (λ u. make u (fref_entry name))

-- ---- get_mem_ptr, get_mem: an entry around one type, of the kinds p, with a value that is taken or not

unfoldable pub part_rows : (ℕ → Bool) → Bool → ℕ → List ℕ → ℕ
part_rows p taken h u =
    2 when no_entry u (h ∷ [])
    otherwise 3 when wrong_kind u p (h ∷ [])
    otherwise 4 when not taken
    otherwise 6 when too_deep u (h ∷ [])

-- "The pointer maker takes 8 and 9"
abbrev pub get_mem_ptr_call : ℕ → ℕ → List ℕ → Outcome
get_mem_ptr_call to nil = call (part_rows is_struct (is_flag nil) to) (λ u. make u (pointer_entry to nil u))

abbrev pub get_mem_call : ℕ → ℕ → List ℕ → Outcome
get_mem_call alias t = call (part_rows is_type (is_alias alias) t) (λ u. make u (memory_entry alias t u))

-- ---- get_struct

unfoldable pub struct_rows : ℕ → List ℕ → List ℕ → ℕ
struct_rows name fs u =
    2 when no_entry u (name ∷ []) || no_entry u (field_names fs) || no_entry u (field_types fs)
    otherwise 3 when wrong_kind u is_name (name ∷ []) || wrong_kind u is_name (field_names fs) || wrong_kind u is_type (field_types fs)
    otherwise 4 when not (eqb (length fs % lent_size) 0) || not (all is_alias (field_aliases fs)) || not (all is_flag (field_finals fs))
    otherwise 5 when ltb most_counted (field_count fs)
    otherwise 6 when too_deep u (field_types fs)

abbrev pub get_struct_call : ℕ → List ℕ → List ℕ → Outcome
get_struct_call name fs = call (struct_rows name fs) (λ u. make u (struct_entry name fs u))

-- ---- make_ary: "wraps the lent text in brackets (255 bytes in all); fields "#" (final) and "[]" (not final)"

-- "array body a pointer without nil"
abbrev pub never_nil : List ℕ → ℕ → Bool
never_nil u body = eqb (kind_on u body) MemPtr && eqb (nil_on u body) 0

unfoldable pub ary_rows : ℕ → ℕ → ℕ → ℕ → List ℕ → List ℕ → ℕ
ary_rows len lenAlias body bodyAlias text u =
    2 when no_entry u (len ∷ body ∷ [])
    -- "an array's length is an Int"
    otherwise 3 when wrong_kind u (kind_in Int Int) (len ∷ []) || wrong_kind u is_type (body ∷ [])
    otherwise 4 when not (is_alias lenAlias) || not (is_alias bodyAlias)
    otherwise 5 when ltb most_counted (length (wrapped true text))
    otherwise 6 when too_deep u (len ∷ body ∷ [])
    otherwise 10 when never_nil u body

-- "#", one byte, and "[]"
abbrev pub length_name : List ℕ
length_name = 35 ∷ []

abbrev pub body_name : List ℕ
body_name = open_bracket ∷ close_bracket ∷ []

-- "Parts are made first, left to right": the array's name, the names of its fields, the struct. The length's field is final (1), the body's is not (0).
abbrev pub make_ary : ℕ → ℕ → ℕ → ℕ → List ℕ → List ℕ → Grown
make_ary len lenAlias body bodyAlias text u =
    let name = make u (name_entry (wrapped true text)) in
    let first = make name.words (name_entry length_name) in
    let second = make first.words (name_entry body_name) in
    make second.words (struct_entry name.handle (first.handle ∷ len ∷ lenAlias ∷ 1 ∷ second.handle ∷ body ∷ bodyAlias ∷ 0 ∷ []) second.words)

abbrev pub make_ary_call : ℕ → ℕ → ℕ → ℕ → List ℕ → List ℕ → Outcome
make_ary_call len lenAlias body bodyAlias text = call (ary_rows len lenAlias body bodyAlias text) (make_ary len lenAlias body bodyAlias text)
