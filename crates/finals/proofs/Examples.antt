-- is_final, computed on the fresh types and on a store with fields that are final and fields that are not. Assumes nothing.
use mathlib.Core.Path.{◌≡◌, refl}
use mathlib.Core.Bool.{true, false}
use mathlib.Core.List.{List, [], ◌∷◌, ◌++◌}
use Prim.Native.Nat.{ℕ}
use Rattle.words.specs.Kinds.{Tuple, Struct, Fref, MemPtr, Mem}
use Rattle.words.specs.Words.{head_of}
use Rattle.wellformed.specs.Fresh.{fresh_words}
use Rattle.words.specs.Columns.{every}
use Rattle.finals.specs.Final.{all_final, is_final_within, is_final_of}

abbrev fresh : List ℕ
fresh = 94 ∷ fresh_words

-- Bot, 0..0, the struct $BOT and the pointer to it
pub fresh_final : (is_final_of fresh 5 ≡ true) × (is_final_of fresh 9 ≡ true) × (is_final_of fresh 20 ≡ true) × (is_final_of fresh 82 ≡ true)
unfolding is_final_within all_final every fresh_words
fresh_final = (refl, refl, refl, refl)

-- the name "X" is 94; a struct of one field, 0..0 at alias 1, that is not final (96) and that is (101)
abbrev fields : List ℕ
fields = fresh ++ (65536 ∷ 88 ∷ []) ++ (head_of Struct 2 1 ∷ 94 ∷ 94 ∷ 9 ∷ 2 ∷ []) ++ (head_of Struct 2 1 ∷ 94 ∷ 94 ∷ 9 ∷ 3 ∷ [])

pub fields_decide : (is_final_of fields 96 ≡ false) × (is_final_of fields 101 ≡ true)
unfolding is_final_within all_final every fresh_words
fields_decide = (refl, refl)

-- around the struct at 96: a pointer (106), a pointer to that in a final field (109), a final field of its own (114), and a final field
-- after a final one (119)
abbrev followed : List ℕ
followed =
    fields ++ (head_of MemPtr 3 0 ∷ 96 ∷ 1 ∷ []) ++ (head_of Struct 4 1 ∷ 94 ∷ 94 ∷ 106 ∷ 3 ∷ []) ++ (head_of Struct 3 1 ∷ 94 ∷ 94 ∷ 96 ∷ 3 ∷ [])
    ++ (head_of Struct 3 2 ∷ 94 ∷ 94 ∷ 101 ∷ 3 ∷ 94 ∷ 96 ∷ 3 ∷ [])

-- "follows pointers and fields down to the last struct"
pub follows : (is_final_of followed 106 ≡ false) × (is_final_of followed 109 ≡ false) × (is_final_of followed 114 ≡ false) × (is_final_of followed 119 ≡ false)
unfolding is_final_within all_final every fresh_words
follows = (refl, refl, refl, refl)

-- around the struct at 96: a tuple (106) and a memory (108); a forward reference (111) and a pointer to it (113)
abbrev others : List ℕ
others = fields ++ (head_of Tuple 3 1 ∷ 96 ∷ []) ++ (head_of Mem 3 0 ∷ 1 ∷ 96 ∷ []) ++ (head_of Fref 1 0 ∷ 94 ∷ []) ++ (head_of MemPtr 2 0 ∷ 111 ∷ 1 ∷ [])

-- "forward references and other types are final"
pub others_final : (is_final_of others 106 ≡ true) × (is_final_of others 108 ≡ true) × (is_final_of others 111 ≡ true) × (is_final_of others 113 ≡ true)
unfolding is_final_within all_final every fresh_words
others_final = (refl, refl, refl, refl)
