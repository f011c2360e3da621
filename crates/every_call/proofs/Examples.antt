-- Computed on the fresh store. non_zero: 0..0 and 0..1 become 1..1, a pointer "void", Top Bot, and a high Int stays; and -4..0, behind the fresh words, becomes -4..-1, which is appended. The merge of a list, from Top, with what it appends on the way, and its rows. Assumes nothing.
use mathlib.Core.Path.{◌≡◌, refl}
use mathlib.Core.List.{List, [], ◌∷◌, ◌++◌}
use Prim.Native.Nat.{ℕ, ◌-◌, ◌^◌}
use lib.ListN.{replicate}
use Rattle.words.specs.Words.{words_after, size_of, eqs}
use Rattle.words.specs.Table.{rows, entries, first_of, find_in, is_at}
use Rattle.words.specs.Made.{there, make}
use Rattle.wellformed.specs.Entry.{all}
use Rattle.wellformed.specs.Fresh.{fresh_words}
use Rattle.call.specs.Handles.{types_rows}
use Rattle.makers.specs.Entries.{int_entry}
use Rattle.meet_rules.specs.Rules.{pair_rule, rule_for}
use Rattle.meet.specs.Meet.{follow, meet_within}
use Rattle.walk_rules.specs.Tables.{form_for}
use Rattle.walk.specs.Walk.{follow_form, walk_within}
use Rattle.every_call.specs.MeetList.{merge_from, meet_list_of, meet_list_rows}
use Rattle.every_call.specs.NonZero.{non_zero_of}

abbrev fresh : List ℕ
fresh = 94 ∷ fresh_words

pub non_zeros : (non_zero_of fresh 9 ≡ there fresh 12) × (non_zero_of fresh 15 ≡ there fresh 12) × (non_zero_of fresh 91 ≡ there fresh 91) × (non_zero_of fresh 88 ≡ there fresh 91) × (non_zero_of fresh 6 ≡ there fresh 5) × (non_zero_of fresh 22 ≡ there fresh 22)
unfolding non_zero_of walk_within follow_form form_for make find_in entries rows first_of eqs size_of words_after fresh_words
non_zeros = (refl, refl, refl, refl, refl, refl)

-- -4..0 at 94
abbrev below : List ℕ
below = (97 ∷ fresh_words) ++ int_entry (2 ^ 64 - 4) 0

pub non_zero_below : non_zero_of below 94 ≡ record { words = below ++ int_entry (2 ^ 64 - 4) (2 ^ 64 - 1); handle = 97 }
unfolding non_zero_of make find_in entries rows first_of eqs size_of words_after fresh_words
non_zero_below = refl

-- 1..1, -128..127, 0.0 and Ctrl: what has no zero at an end is itself, and all but Ints and pointers is its glb
pub non_zero_others : (non_zero_of fresh 12 ≡ there fresh 12) × (non_zero_of fresh 31 ≡ there fresh 31) × (non_zero_of fresh 55 ≡ there fresh 61) × (non_zero_of fresh 7 ≡ there fresh 7)
unfolding non_zero_of walk_within follow_form form_for make find_in entries rows first_of eqs size_of words_after fresh_words
non_zero_others = (refl, refl, refl, refl)

-- no handle, one, two, and three, of which the answer 0..2 is new; the other way round 1..2 comes in between
pub merges : (meet_list_of [] fresh ≡ there fresh 6) × (meet_list_of (9 ∷ []) fresh ≡ there fresh 9) × (meet_list_of (9 ∷ 12 ∷ []) fresh ≡ there fresh 15) × (meet_list_of (6 ∷ 6 ∷ 9 ∷ 6 ∷ []) fresh ≡ there fresh 9) × (meet_list_of (7 ∷ 8 ∷ 7 ∷ []) fresh ≡ there fresh 7)
unfolding merge_from meet_within follow rule_for pair_rule make find_in entries rows first_of eqs size_of words_after fresh_words
merges = (refl, refl, refl, refl, refl)

pub merge_new : meet_list_of (9 ∷ 12 ∷ 28 ∷ []) fresh ≡ record { words = fresh ++ int_entry 0 2; handle = 94 }
unfolding merge_from meet_within follow rule_for pair_rule make find_in entries rows first_of eqs size_of words_after fresh_words
merge_new = refl

pub merge_between : meet_list_of (28 ∷ 12 ∷ 9 ∷ []) fresh ≡ record { words = (fresh ++ int_entry 1 2) ++ int_entry 0 2; handle = 97 }
unfolding merge_from meet_within follow rule_for pair_rule make find_in entries rows first_of eqs size_of words_after fresh_words
merge_between = refl

-- a handle that a meet of the same list would make is none yet: 0..2 would be at 94
pub merge_tested : (meet_list_rows (9 ∷ 28 ∷ 94 ∷ []) fresh ≡ 2) × ((meet_list_of (9 ∷ 28 ∷ []) fresh).handle ≡ 94)
unfolding meet_list_rows types_rows all is_at merge_from meet_within follow rule_for pair_rule make find_in entries rows first_of eqs size_of words_after fresh_words
merge_tested = (refl, refl)

-- 13 before 2, and 2 before 3
pub merge_rows : (meet_list_rows (replicate 4097 2) fresh ≡ 13) × (meet_list_rows (replicate 4096 2) fresh ≡ 2) × (meet_list_rows (replicate 4096 9) fresh ≡ 0) × (meet_list_rows (9 ∷ 1 ∷ 2 ∷ []) fresh ≡ 2) × (meet_list_rows (9 ∷ 1 ∷ []) fresh ≡ 3)
unfolding meet_list_rows types_rows all is_at entries rows size_of words_after fresh_words
merge_rows = (refl, refl, refl, refl, refl)
