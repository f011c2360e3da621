-- Document 01, "Twelve cases for the table", and its traps: two tables, each case with its words from the document beside it. "The twelve cases are one table with one theorem": `twelve` of
-- proofs/Twelve.antt is `AllHold twelve_cases`, and `traps` beside it is `AllHold trap_cases`. `Call` and `run` (every_call/specs/Run.antt) are those that the contracts of the functions cite.
use Rattle.std.specs.Prelude.{◌≡◌, true, false, List, [], ◌∷◌, ℕ, zero, suc, ◌+◌, ◌-◌, ◌^◌, replicate}
use Rattle.call.specs.Call.{Reply, handle, number, flag, refused, signed_number, constant_bits}
use Rattle.makers.specs.Makers.{fresh_call}
use Rattle.every_call.specs.Others.{offsets_output}
use Rattle.every_call.specs.Run.{Call, get_int, make_int, get_float, get_tuple, get_str, get_struct, make_struct_fref, get_mem, meet, isa, join, dual, non_zero, log_size_is, int_min, int_max, int_mask, float_sz, float_is_f32, float_value, float_reading_is, offset, offsets, run}

-- ---- how a table is read

-- what the calls of a list answer, each on the words that the one before left
unfoldable pub replies : List Call → List ℕ → List Reply
replies [] ws = []
replies (c ∷ cs) ws = (run c ws).reply ∷ replies cs (run c ws).words

-- the words that the last of them leaves
unfoldable pub leaves : List Call → List ℕ → List ℕ
leaves [] ws = ws
leaves (c ∷ cs) ws = leaves cs (run c ws).words

-- every case begins with a fresh store of 1,000 words: the first entry that is appended has handle 94
abbrev pub start : List ℕ
start = (fresh_call (replicate 1000 0)).words

-- a call, and its reply beside it
infix 90 ◌gives◌
pub data Line : Type 0 where
  ◌gives◌ : Call → Reply → Line

unfoldable pub calls : List Line → List Call
calls [] = []
calls (c gives r ∷ ls) = c ∷ calls ls

unfoldable pub given : List Line → List Reply
given [] = []
given (c gives r ∷ ls) = r ∷ given ls

pub data Case : Type 0 where
  -- these calls, one after another
  asked : List Line → Case
  -- these calls, and `offsets` behind them: the struct, the words of the lent output before, and what they are afterwards
  filled : List Line → ℕ → List ℕ → List ℕ → Case

abbrev pub Answers : List Line → Type 0
Answers ls = replies (calls ls) start ≡ given ls

abbrev pub Holds : Case → Type 0
Holds (asked ls) = Answers ls
Holds (filled ls s before after) = Answers ls × (offsets_output s (leaves (calls ls) start) before ≡ after)

abbrev pub AllHold : List Case → Type 0
AllHold [] = Unit
AllHold (c ∷ cs) = Holds c × AllHold cs

-- the word of -n
abbrev pub minus : ℕ → ℕ
minus n = 2 ^ 64 - n

-- the name X, one byte
abbrev pub name_x : List ℕ
name_x = 88 ∷ []

-- ---- "Twelve cases for the table". Where the answer is an Int, its ends are asked for.

abbrev pub twelve_cases : List Case
twelve_cases =
    -- "mask 16..18 = 19"
    asked (make_int 16 18 gives handle 94 ∷ int_mask 94 gives signed_number 19 ∷ []) ∷
    -- "mask 5..3 = 0"
    asked (make_int 5 3 gives handle 94 ∷ int_mask 94 gives signed_number 0 ∷ []) ∷
    -- "mask -1..0 = -1"
    asked (make_int (minus 1) 0 gives handle 94 ∷ int_mask 94 gives signed_number (minus 1) ∷ []) ∷
    -- "0..7 meet 8..8 = 0..8"
    asked (make_int 0 7 gives handle 94 ∷ make_int 8 8 gives handle 97 ∷ meet 94 97 gives handle 100 ∷ int_min 100 gives signed_number 0 ∷ int_max 100 gives signed_number 8 ∷ []) ∷
    -- "0..7 join 4..9 = 4..7"; before it are the duals 7..0 and 9..4 and their meet 7..4
    asked (make_int 0 7 gives handle 94 ∷ make_int 4 9 gives handle 97 ∷ join 94 97 gives handle 109 ∷ int_min 109 gives signed_number 4 ∷ int_max 109 gives signed_number 7 ∷ []) ∷
    -- "0..3 join 8..9 = 8..3"
    asked (make_int 0 3 gives handle 94 ∷ make_int 8 9 gives handle 97 ∷ join 94 97 gives handle 109 ∷ int_min 109 gives signed_number 8 ∷ int_max 109 gives signed_number 3 ∷ []) ∷
    -- "non_zero -4..0 = -4..-1"
    asked (make_int (minus 4) 0 gives handle 94 ∷ non_zero 94 gives handle 97 ∷ int_min 97 gives signed_number (minus 4) ∷ int_max 97 gives signed_number (minus 1) ∷ []) ∷
    -- "constants 0.5 meet 0.25 = size 32"
    asked (get_float 0x3FE0000000000000 gives handle 94 ∷ get_float 0x3FD0000000000000 gives handle 97 ∷ meet 94 97 gives handle 58 ∷ float_sz 58 gives signed_number 32 ∷ []) ∷
    -- "0.5 meet 0.1 = size 64"
    asked (get_float 0x3FE0000000000000 gives handle 94 ∷ get_float 0x3FB999999999999A gives handle 97 ∷ meet 94 97 gives handle 61 ∷ float_sz 61 gives signed_number 64 ∷ []) ∷
    -- "dual of 88 = 91"
    asked (dual 88 gives handle 91 ∷ []) ∷
    -- "fields u8, Int 25, u16, 88: offsets 14, 0, 12, 8, 16": the fields are lent as name, type, alias, final. Of an output of six words the first five are filled.
    filled (get_str name_x gives handle 94 ∷
    get_struct 94 (94 ∷ 40 ∷ 1 ∷ 0 ∷ 94 ∷ 25 ∷ 2 ∷ 0 ∷ 94 ∷ 43 ∷ 3 ∷ 0 ∷ 94 ∷ 88 ∷ 4 ∷ 0 ∷ []) gives handle 96 ∷
    offset 96 0 gives number 14 ∷ offset 96 1 gives number 0 ∷ offset 96 2 gives number 12 ∷ offset 96 3 gives number 8 ∷ offset 96 4 gives number 16 ∷ offsets 96 6 gives number 5 ∷ [])
    96 (7 ∷ 7 ∷ 7 ∷ 7 ∷ 7 ∷ 7 ∷ []) (14 ∷ 0 ∷ 12 ∷ 8 ∷ 16 ∷ 7 ∷ []) ∷
    -- "Mem (2, Top) meet Mem (1, Top) = 76"
    asked (get_mem 2 6 gives handle 94 ∷ get_mem 1 6 gives handle 97 ∷ meet 94 97 gives handle 76 ∷ []) ∷
    []

-- ---- "Traps", and "Also run"

-- for "depth 32 and 33": n tuples of one element, each around the one before: the first around the type at h, with handle p
unfoldable pub nested : ℕ → ℕ → ℕ → List Line → List Line
nested zero h p ls = ls
nested (suc n) h p ls = get_tuple (h ∷ []) gives handle p ∷ nested n p (p + 2) ls

-- for "255 and 256": n lent fields, each with the name at 94, the type at 9, alias 0, not final
unfoldable pub fields_x : ℕ → List ℕ
fields_x zero = []
fields_x (suc n) = 94 ∷ 9 ∷ 0 ∷ 0 ∷ fields_x n

abbrev pub trap_cases : List Case
trap_cases =
    -- "reading -0.0 as 0.0": the constant -0.0 is not 55, the constant 0.0. Its value is its own bits, and the two, both single, meet in size 32, not in 55.
    asked (get_float 0x8000000000000000 gives handle 94 ∷ float_value 94 gives number 0x8000000000000000 ∷ float_value 55 gives number 0 ∷
    float_reading_is 94 gives constant_bits 0x8000000000000000 ∷ float_is_f32 94 gives flag true ∷ meet 94 55 gives handle 58 ∷ meet 55 94 gives handle 58 ∷ []) ∷
    -- "sizing the constant 300 at two bytes": it is a constant, so its log size is 0, one byte
    asked (get_int 300 gives handle 94 ∷ log_size_is 94 gives number 0 ∷ []) ∷
    -- "meeting a name's forward reference to $BOT": "a forward reference yields to its namesake", in both orders, and isa it; the struct is not isa the forward reference. $BOT is 20.
    asked (get_str name_x gives handle 94 ∷ get_struct 94 (94 ∷ 40 ∷ 1 ∷ 0 ∷ []) gives handle 96 ∷ make_struct_fref 94 gives handle 101 ∷
    meet 101 96 gives handle 96 ∷ meet 96 101 gives handle 96 ∷ isa 101 96 gives flag true ∷ isa 96 101 gives flag false ∷ []) ∷
    -- "claiming associativity for Mem (the last case breaks it)": with a = Mem (2, Top), which is 94, and b = Mem (1, Top), which is 97, (a meet a) meet b is 76, and a meet (a meet b) is a,
    -- since 76 yields. And a is not isa its meet with b.
    asked (get_mem 2 6 gives handle 94 ∷ get_mem 1 6 gives handle 97 ∷ meet 94 94 gives handle 94 ∷ meet 94 97 gives handle 76 ∷ meet 94 76 gives handle 94 ∷ isa 94 76 gives flag false ∷ []) ∷
    -- "Also run: 2 to the -149 is single, 2 to the -150 is not"
    asked (get_float 0x36A0000000000000 gives handle 94 ∷ float_is_f32 94 gives flag true ∷ get_float 0x3690000000000000 gives handle 97 ∷ float_is_f32 97 gives flag false ∷ []) ∷
    -- "depth 32 and 33": Bot, which is 5, has depth 1, and 31 tuples around it have the depths 2 to 32
    asked (nested 31 5 94 (get_tuple (154 ∷ []) gives refused 6 ∷ [])) ∷
    -- "255 and 256": bytes of a name
    asked (get_str (replicate 255 88) gives handle 94 ∷ get_str (replicate 256 88) gives refused 5 ∷ []) ∷
    -- "255 and 256": elements of a tuple
    asked (get_tuple (replicate 255 5) gives handle 94 ∷ get_tuple (replicate 256 5) gives refused 5 ∷ []) ∷
    -- "255 and 256": fields of a struct
    asked (get_str name_x gives handle 94 ∷ get_struct 94 (fields_x 255) gives handle 96 ∷ get_struct 94 (fields_x 256) gives refused 5 ∷ []) ∷
    -- "offsets of $TOP are 0": one number, the end. $TOP is 18. "index 1 of $TOP" is the example of row 8, and "0 words for offsets of $TOP" that of row 11.
    filled (offset 18 0 gives number 0 ∷ offset 18 1 gives refused 8 ∷ offsets 18 1 gives number 1 ∷ offsets 18 0 gives refused 11 ∷ [])
    18 (7 ∷ 7 ∷ []) (0 ∷ 7 ∷ []) ∷
    []
