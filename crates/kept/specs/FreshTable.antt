-- Document 01, "The store": the entries of a fresh store, handle by handle. The quoted words are the document's.
use Rattle.std.specs.Prelude.{List, [], ◌∷◌, ℕ, ◌-◌, ◌^◌}
use Rattle.words.specs.Kinds.{Bot, Top, Ctrl, XCtrl}
use Rattle.words.specs.Words.{head_of}
use Rattle.words.specs.Table.{Row}
use Rattle.wellformed.specs.Fresh.{fresh_length, fresh_words}
use Rattle.wellformed.specs.Entry.{largest_alias}
use Rattle.wellformed.specs.FreshHandles.{bot, top, ctrl, xctrl, struct_top, struct_bot}
use Rattle.names.specs.Name.{name_entry}
use Rattle.makers.specs.Entries.{int_entry, stored_size, float_entry, tuple_entry, struct_entry, pointer_entry, memory_entry}

-- "Fresh, 94 words": word 0 and the words 1 to 93
abbrev pub fresh_used : List ℕ
fresh_used = fresh_length ∷ fresh_words

abbrev row : ℕ → List ℕ → Row
row at e = record { at = at; words = e }

-- -n as a two's complement word
abbrev negative : ℕ → ℕ
negative n = 2 ^ 64 - n

-- Bot, Top, Ctrl and XCtrl have no words after the head
abbrev plain_entry : ℕ → List ℕ
plain_entry k = head_of k 1 0 ∷ []

-- the entries around others take those by their handles here
abbrev struct : ℕ → List ℕ
struct name = struct_entry name [] fresh_used

abbrev tuple : ℕ → ℕ → List ℕ
tuple a b = tuple_entry (a ∷ b ∷ []) fresh_used

abbrev memory : ℕ → ℕ → List ℕ
memory alias t = memory_entry alias t fresh_used

abbrev pointer : ℕ → ℕ → List ℕ
pointer to nil = pointer_entry to nil fresh_used

unfoldable pub fresh_table : List Row
fresh_table =
    -- "1 "$TOP"; 3 "$BOT""
    row 1 (name_entry (36 ∷ 84 ∷ 79 ∷ 80 ∷ []))
    ∷ row 3 (name_entry (36 ∷ 66 ∷ 79 ∷ 84 ∷ []))
    -- "5 to 8 Bot, Top, Ctrl, XCtrl"
    ∷ row 5 (plain_entry Bot)
    ∷ row 6 (plain_entry Top)
    ∷ row 7 (plain_entry Ctrl)
    ∷ row 8 (plain_entry XCtrl)
    -- "Ints 9 0..0, 12 1..1, 15 0..1"
    ∷ row 9 (int_entry 0 0)
    ∷ row 12 (int_entry 1 1)
    ∷ row 15 (int_entry 0 1)
    -- "structs without fields 18 $TOP, 20 $BOT"
    ∷ row 18 (struct 1)
    ∷ row 20 (struct 3)
    -- "Ints 22 top (largest..smallest), 25 bot (smallest..largest), 28 2..2"
    ∷ row 22 (int_entry (2 ^ 63 - 1) (negative (2 ^ 63)))
    ∷ row 25 (int_entry (negative (2 ^ 63)) (2 ^ 63 - 1))
    ∷ row 28 (int_entry 2 2)
    -- "31 i8, 34 i16, 37 i32, 40 u8, 43 u16, 46 u32"
    ∷ row 31 (int_entry (negative 128) 127)
    ∷ row 34 (int_entry (negative 32768) 32767)
    ∷ row 37 (int_entry (negative 2147483648) 2147483647)
    ∷ row 40 (int_entry 0 255)
    ∷ row 43 (int_entry 0 65535)
    ∷ row 46 (int_entry 0 4294967295)
    -- "Floats of size 49 -64, 52 -32, 55 0 (constant 0.0), 58 32, 61 64"
    ∷ row 49 (float_entry (stored_size (negative 64)) 0)
    ∷ row 52 (float_entry (stored_size (negative 32)) 0)
    ∷ row 55 (float_entry (stored_size 0) 0)
    ∷ row 58 (float_entry (stored_size 32) 0)
    ∷ row 61 (float_entry (stored_size 64) 0)
    -- "tuples 64 (Ctrl, Ctrl), 67 (XCtrl, XCtrl), 70 (Ctrl, XCtrl), 73 (XCtrl, Ctrl)"
    ∷ row 64 (tuple ctrl ctrl)
    ∷ row 67 (tuple xctrl xctrl)
    ∷ row 70 (tuple ctrl xctrl)
    ∷ row 73 (tuple xctrl ctrl)
    -- "Mem with alias 4,294,967,295: 76 Top, 79 Bot"
    ∷ row 76 (memory largest_alias top)
    ∷ row 79 (memory largest_alias bot)
    -- "pointers 82 ($BOT, nil), 85 ($TOP, not nil), 88 ($TOP, nil) "null", 91 ($BOT, not nil) "void""
    ∷ row 82 (pointer struct_bot 1)
    ∷ row 85 (pointer struct_top 0)
    ∷ row 88 (pointer struct_top 1)
    ∷ row 91 (pointer struct_bot 0)
    ∷ []
