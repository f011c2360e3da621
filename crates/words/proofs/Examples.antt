-- The table of a few words, computed: an Int 3..4 and a Bot behind the 94 words of a fresh store; and what a search tells of a few rows. Assumes nothing.
use mathlib.Core.Path.{◌≡◌, refl}
use mathlib.Core.Bool.{true, false}
use mathlib.Core.List.{List, [], ◌∷◌}
use Prim.Native.Nat.{ℕ}
use Rattle.words.specs.Kinds.{Bot, Int, Struct}
use Rattle.words.specs.Words.{head_of, kind_of, depth_of, count_of, words_after, size_of, fills, eqs}
use Rattle.words.specs.Columns.{every, min_on, max_on, name_on, field_names_on, field_types_on, flags_on, alias_in, final_in}
use Rattle.words.specs.Table.{Row, rows, first_of, is_at}
use Rattle.words.specs.Search.{headed, not_passed_over}
use Rattle.std.specs.Prelude.{Some, None}

-- the heads of an Int and a Bot: kind 5 and kind 1, depth 1, n 0; and a head is taken apart again
pub heads : (head_of Int 1 0 ≡ 261) × (head_of Bot 1 0 ≡ 257) × (kind_of 261 ≡ Int) × (depth_of 261 ≡ 1) × (count_of 261 ≡ 0)
heads = (refl, refl, refl, refl, refl)

abbrev int_and_bot : List ℕ
int_and_bot = 261 ∷ 3 ∷ 4 ∷ 257 ∷ []

-- they fill the list; not where a word is missing; and behind the Int's head two words are passed over first
pub filled : (fills 0 int_and_bot ≡ true) × (fills 0 (261 ∷ 3 ∷ []) ≡ false) × (fills 2 (3 ∷ 4 ∷ 257 ∷ []) ≡ true)
unfolding fills size_of words_after
filled = (refl, refl, refl)

abbrev table : List Row
table = record { at = 94; words = 261 ∷ 3 ∷ 4 ∷ [] } ∷ record { at = 97; words = 257 ∷ [] } ∷ []

-- two rows, at 94 and 97
pub tabled : rows 94 0 int_and_bot ≡ table
unfolding rows size_of words_after
tabled = refl

-- 97 starts an entry and 95 does not; the lowest equal entry; an entry that is not there
pub looked_up : (is_at table 97 ≡ true) × (is_at table 95 ≡ false) × (first_of table (257 ∷ []) ≡ Some 97) × (first_of table (261 ∷ 3 ∷ 5 ∷ []) ≡ None)
unfolding is_at first_of eqs
looked_up = (refl, refl, refl, refl)

-- the words of an Int by their names, and of a struct at position 0: the name 1, and two fields, named 3 and 4, of the types 9 and 12, with the aliases 7 and 8, the first final
pub named : (min_on int_and_bot 0 ≡ 3) × (max_on int_and_bot 0 ≡ 4)
    × (let s = head_of Struct 2 2 ∷ 1 ∷ 3 ∷ 9 ∷ 15 ∷ 4 ∷ 12 ∷ 16 ∷ [] in
    (name_on s 0 ≡ 1) × (field_names_on s 0 ≡ 3 ∷ 4 ∷ []) × (field_types_on s 0 ≡ 9 ∷ 12 ∷ []) × (flags_on s 0 ≡ 15 ∷ 16 ∷ []))
    × (alias_in 15 ≡ 7) × (final_in 15 ≡ 1) × (alias_in 16 ≡ 8) × (final_in 16 ≡ 0)
unfolding every
named = (refl, refl, (refl, refl, refl, refl), refl, refl, refl, refl)

-- the search and its number: Slip 2. Behind the Int and the Bot stand a second Int, an equal copy of the first, and another Bot
abbrev five_rows : List Row
five_rows = record { at = 94; words = 261 ∷ 3 ∷ 4 ∷ [] } ∷ record { at = 97; words = 257 ∷ [] } ∷ record { at = 98; words = 261 ∷ 5 ∷ 5 ∷ [] } ∷ record { at = 101; words = 261 ∷ 3 ∷ 4 ∷ [] } ∷ record { at = 104; words = 257 ∷ [] } ∷ []

-- the one found counts too; what stands behind it does not; of another head none counts; where none is found all of this head count
pub searched : (not_passed_over five_rows (261 ∷ 3 ∷ 4 ∷ []) ≡ 1) × (not_passed_over five_rows (261 ∷ 5 ∷ 5 ∷ []) ≡ 2) × (not_passed_over five_rows (257 ∷ []) ≡ 1)
    × (not_passed_over five_rows (261 ∷ 9 ∷ 9 ∷ []) ≡ 3) × (not_passed_over five_rows (258 ∷ []) ≡ 0)
unfolding not_passed_over headed first_of eqs
searched = (refl, refl, refl, refl, refl)
