-- Document 01, "The other calls": what is told of a type by its kind, its words and its handle; "as the Rust" where nothing else is said. `u` is the used words, t a type.
use Rattle.std.specs.Prelude.{Bool, true, false, cond, not, ◌&&◌, ◌||◌, List, [], ◌∷◌, ℕ, ◌+◌, ◌-◌, eqb, ltb}
use Rattle.words.specs.Kinds.{Top, XCtrl, Int, Float, Fref, MemPtr}
use Rattle.words.specs.Columns.{kind_on, min_on, max_on, size_on, bits_on, size_zero, target_on}
use Rattle.wellformed.specs.FreshHandles.{top, int_zero, int_bool, int_bot, int_i8, int_i16, int_i32, int_u8, int_u16, int_u32, float_zero, ptr_top, ptr_null}
use Rattle.call.specs.Call.{◌when◌, ◌otherwise◌}
use Rattle.call.specs.Handles.{no_entry, wrong_kind, types_rows}
use Rattle.makers.specs.Makers.{never_nil}
use Rattle.type_integer.specs.Signed.{less}
use Rattle.type_float.specs.Single.{is_single}
use Rattle.rules.specs.Column.{◌⇒◌∣◌}
use Rattle.of_types.specs.declared.Side.{Side}
use Rattle.of_types.specs.declared.Side.TheVariants.{High, Constant, Low}

-- ---- is_high, is_high_or_constant, is_constant

-- the ends of a range that is high have changed places; a constant has one number
abbrev pub int_side : ℕ → ℕ → Side
int_side min max =
    less max min ⇒ High ∣
    eqb min max ⇒ Constant ∣
    Low

-- a size below 0 is high; a constant has size 0
abbrev pub float_side : ℕ → Side
float_side size =
    ltb size size_zero ⇒ High ∣
    eqb size size_zero ⇒ Constant ∣
    Low

-- two pointers of the fresh store
abbrev pub pointer_side : ℕ → Side
pointer_side t =
    eqb t ptr_top ⇒ High ∣
    eqb t ptr_null ⇒ Constant ∣
    Low

-- on Top's side of the lattice's centre, on the centre, or on Bot's side
unfoldable pub side_of : List ℕ → ℕ → Side
side_of u t =
    eqb (kind_on u t) Top ⇒ High ∣
    eqb (kind_on u t) XCtrl ⇒ High ∣
    eqb (kind_on u t) Int ⇒ int_side (min_on u t) (max_on u t) ∣
    eqb (kind_on u t) Float ⇒ float_side (size_on u t) ∣
    eqb (kind_on u t) MemPtr ⇒ pointer_side t ∣
    Low

abbrev pub is_high : Side → Bool
is_high High = true
is_high Constant = false
is_high Low = false

abbrev pub is_high_or_constant : Side → Bool
is_high_or_constant High = true
is_high_or_constant Constant = true
is_high_or_constant Low = false

abbrev pub is_constant : Side → Bool
is_constant High = false
is_constant Constant = true
is_constant Low = false

-- ---- is_fref: a forward reference, or a pointer to one

unfoldable pub is_fref : List ℕ → ℕ → Bool
is_fref u t =
    eqb (kind_on u t) Fref ⇒ true ∣
    eqb (kind_on u t) MemPtr ⇒ eqb (kind_on u (target_on u t)) Fref ∣
    false

-- ---- make_init, make_zero

-- of an Int, a Float and a pointer; of the others, which make_init alone takes, the type itself
unfoldable pub zero_of : ℕ → ℕ → ℕ
zero_of k t =
    eqb k Int ⇒ int_zero ∣
    eqb k Float ⇒ float_zero ∣
    eqb k MemPtr ⇒ ptr_null ∣
    t

-- "(Int, Float, pointer; else 3)"
abbrev pub has_zero : ℕ → Bool
has_zero k = eqb k Int || eqb k Float || eqb k MemPtr

abbrev pub make_zero_of : List ℕ → ℕ → ℕ
make_zero_of u t = zero_of (kind_on u t) t

-- a pointer without nil has no null
unfoldable pub make_init_of : List ℕ → ℕ → ℕ
make_init_of u t = never_nil u t ⇒ top ∣ zero_of (kind_on u t) t

-- ---- log_size

-- "no log size"; a log size is 0 to 3
abbrev pub no_log_size : ℕ
no_log_size = 4

-- "0 for i8, u8, bool, any high or constant Int; 1 for i16, u16; 2 for i32, u32; 3 for bot": the entries of the fresh store
unfoldable pub int_log_size : List ℕ → ℕ → ℕ
int_log_size u t =
    eqb t int_i8 || eqb t int_u8 || eqb t int_bool ⇒ 0 ∣
    eqb t int_i16 || eqb t int_u16 ⇒ 1 ∣
    eqb t int_i32 || eqb t int_u32 ⇒ 2 ∣
    eqb t int_bot ⇒ 3 ∣
    is_high_or_constant (int_side (min_on u t) (max_on u t)) ⇒ 0 ∣
    no_log_size

-- "floats 2 for size ±32 or a single constant, else 3"
unfoldable pub float_log_size : ℕ → ℕ → ℕ
float_log_size size bits =
    eqb size (size_zero + 32) || eqb size (size_zero - 32) ⇒ 2 ∣
    eqb size size_zero && is_single bits ⇒ 2 ∣
    3

-- "pointers 2; all others 9"
unfoldable pub log_size : List ℕ → ℕ → ℕ
log_size u t =
    eqb (kind_on u t) Int ⇒ int_log_size u t ∣
    eqb (kind_on u t) Float ⇒ float_log_size (size_on u t) (bits_on u t) ∣
    eqb (kind_on u t) MemPtr ⇒ 2 ∣
    no_log_size

abbrev pub has_log_size : List ℕ → ℕ → Bool
has_log_size u t = ltb (log_size u t) no_log_size

-- ---- rows

-- of a call that takes one entry, of the kinds that p takes
unfoldable pub kind_rows : (ℕ → Bool) → ℕ → List ℕ → ℕ
kind_rows p h u =
    2 when no_entry u (h ∷ [])
    otherwise 3 when wrong_kind u p (h ∷ [])

abbrev pub log_size_rows : ℕ → List ℕ → ℕ
log_size_rows t u = types_rows (t ∷ []) u otherwise 9 when not (has_log_size u t)
