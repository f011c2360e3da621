-- make_ro, computed on the fresh types and on small stores. Assumes nothing.
use mathlib.Core.Path.{◌≡◌, refl}
use mathlib.Core.List.{List, [], ◌∷◌, ◌++◌}
use Prim.Native.Nat.{ℕ}
use Rattle.words.specs.Kinds.{Tuple, Struct, Fref, MemPtr}
use Rattle.words.specs.Words.{head_of, words_after, size_of, eqs}
use Rattle.words.specs.Table.{rows, entries, first_of, find_in}
use Rattle.words.specs.Made.{there, make}
use Rattle.wellformed.specs.Fresh.{fresh_words}
use Rattle.wellformed.specs.Entry.{deepest}
use Rattle.words.specs.Columns.{every}
use Rattle.makers.specs.Entries.{field_words}
use Rattle.structs.specs.Remade.{fields_with, remake}
use Rattle.finals.specs.Final.{all_final, is_final_within}
use Rattle.make_ro.specs.ReadOnly.{read_only_each, make_ro_within, make_ro_of}

abbrev fresh : List ℕ
fresh = 94 ∷ fresh_words

-- Bot, 0..0, a float, the struct $TOP, a tuple, Mem and the pointers to $BOT and $TOP
pub fresh_stay : (make_ro_of fresh 5 ≡ there fresh 5) × (make_ro_of fresh 9 ≡ there fresh 9) × (make_ro_of fresh 52 ≡ there fresh 52) × (make_ro_of fresh 18 ≡ there fresh 18) × (make_ro_of fresh 64 ≡ there fresh 64) × (make_ro_of fresh 76 ≡ there fresh 76) × (make_ro_of fresh 82 ≡ there fresh 82) × (make_ro_of fresh 85 ≡ there fresh 85)
unfolding make_ro_within read_only_each is_final_within all_final every fresh_words
fresh_stay = (refl, refl, refl, refl, refl, refl, refl, refl)

-- the name "X" is 94; a struct of one field, 0..0 at alias 1, that is not final (96); a pointer to it, with nil (101)
abbrev one : List ℕ
one = fresh ++ (65536 ∷ 88 ∷ []) ++ (head_of Struct 2 1 ∷ 94 ∷ 94 ∷ 9 ∷ 2 ∷ []) ++ (head_of MemPtr 3 0 ∷ 96 ∷ 1 ∷ [])

abbrev one_final : List ℕ
one_final = one ++ (head_of Struct 2 1 ∷ 94 ∷ 94 ∷ 9 ∷ 3 ∷ [])

-- the field becomes final; the pointer leads to that struct, and keeps its nil
pub pointed : (make_ro_of one 96 ≡ there one_final 104) × (make_ro_of one 101 ≡ there (one_final ++ (head_of MemPtr 3 0 ∷ 104 ∷ 1 ∷ [])) 109)
unfolding make_ro_within read_only_each is_final_within all_final remake fields_with every deepest field_words make find_in entries rows first_of eqs size_of words_after fresh_words
pointed = (refl, refl)

-- around the struct at 96, a struct (104) with a final field of that type, and a field of it that is not final
abbrev around : List ℕ
around = one ++ (head_of Struct 3 2 ∷ 94 ∷ 94 ∷ 96 ∷ 3 ∷ 94 ∷ 96 ∷ 4 ∷ [])

-- "make_ro keeps a final field's inner type": the first field's type stays 96, the second's is made read-only
pub entered : make_ro_of around 104 ≡ there (around ++ (head_of Struct 2 1 ∷ 94 ∷ 94 ∷ 9 ∷ 3 ∷ []) ++ (head_of Struct 3 2 ∷ 94 ∷ 94 ∷ 96 ∷ 3 ∷ 94 ∷ 112 ∷ 5 ∷ [])) 117
unfolding make_ro_within read_only_each is_final_within all_final remake fields_with every deepest field_words make find_in entries rows first_of eqs size_of words_after fresh_words
entered = refl

-- a tuple around the struct at 96 (104), a forward reference (106) and a pointer to it (108): themselves
abbrev others : List ℕ
others = one ++ (head_of Tuple 3 1 ∷ 96 ∷ []) ++ (head_of Fref 1 0 ∷ 94 ∷ []) ++ (head_of MemPtr 2 0 ∷ 106 ∷ 1 ∷ [])

pub others_stay : (make_ro_of others 104 ≡ there others 104) × (make_ro_of others 106 ≡ there others 106) × (make_ro_of others 108 ≡ there others 108)
unfolding make_ro_within read_only_each is_final_within all_final every fresh_words
others_stay = (refl, refl, refl)
