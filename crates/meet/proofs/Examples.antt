-- meet on document 01's examples, computed. Assumes nothing.
use mathlib.Core.Path.{◌≡◌, refl}
use mathlib.Core.Bool.{true, false}
use mathlib.Core.List.{List, [], ◌∷◌, ◌++◌}
use Prim.Native.Nat.{ℕ, ◌^◌}
use lib.Ieee.{fits, of_bits, is_nan}
use Rattle.words.specs.Words.{words_after, size_of, eqs}
use Rattle.words.specs.Table.{rows, entries, first_of, find_in}
use Rattle.words.specs.Made.{there, make}
use Rattle.wellformed.specs.Fresh.{fresh_words}
use Rattle.wellformed.specs.Entry.{deepest}
use Rattle.words.specs.Columns.{every}
use Rattle.float_meet.specs.FloatRule.{float_rule}
use Rattle.makers.specs.Entries.{int_entry, float_entry, struct_entry, fref_entry, memory_entry, field_words}
use Rattle.meet_rules.specs.Names.{same_words, same_fields}
use Rattle.meet_rules.specs.Rules.{pair_rule, rule_for, named_rule, struct_rule}
use Rattle.structs.specs.Remade.{fields_with, remake}
use Rattle.meet_fields.specs.Fields.{either_final, meet_fields}
use Rattle.meet.specs.Meet.{meet_each, follow_struct, meet_struct, follow, meet_within, meet_of, isa_of}

abbrev fresh : List ℕ
fresh = 94 ∷ fresh_words

-- "0..7 meet 8..8 = 0..8": 0..7 is 94, 8..8 is 97
abbrev counter : List ℕ
counter = fresh ++ int_entry 0 7 ++ int_entry 8 8

pub counts_to_eight : meet_of counter 94 97 ≡ record { words = counter ++ int_entry 0 8; handle = 100 }
unfolding meet_within follow rule_for pair_rule make find_in entries rows first_of eqs size_of words_after fresh_words
counts_to_eight = refl

-- the other order gives the same
pub counts_either_way : meet_of counter 97 94 ≡ record { words = counter ++ int_entry 0 8; handle = 100 }
unfolding meet_within follow rule_for pair_rule make find_in entries rows first_of eqs size_of words_after fresh_words
counts_either_way = refl

-- "Mem (2, Top) meet Mem (1, Top) = 76"
abbrev memories : List ℕ
memories = fresh ++ memory_entry 2 6 fresh ++ memory_entry 1 6 fresh

pub all_memory : meet_of memories 94 97 ≡ there memories 76
unfolding meet_within follow rule_for pair_rule make find_in entries rows first_of eqs size_of words_after fresh_words deepest
all_memory = refl

-- "constants 0.5 meet 0.25 = size 32; 0.5 meet 0.1 = size 64": 0.5 is 94, 0.25 is 97, 0.1 is 100; and 0.0 is 55, -0.0 is 103
abbrev constants : List ℕ
constants = fresh ++ float_entry 64 0x3FE0000000000000 ++ float_entry 64 0x3FD0000000000000 ++ float_entry 64 0x3FB999999999999A ++ float_entry 64 (2 ^ 63)

pub floats : (meet_of constants 94 97 ≡ there constants 58) × (meet_of constants 94 100 ≡ there constants 61) × (meet_of constants 55 103 ≡ there constants 58) × (meet_of constants 52 97 ≡ there constants 97)
unfolding meet_within follow rule_for pair_rule float_rule make find_in entries rows first_of eqs size_of words_after fresh_words fits of_bits is_nan
floats = (refl, refl, refl, refl)

-- the name "X" is 94, and a second entry of it 96, as a damaged store may hold; two structs X of a field X, of type 0..0 and not final (98)
-- and of type 1..1 and final (103); the forward reference X is 108
abbrev structs : List ℕ
structs =
    fresh ++ (65536 ∷ 88 ∷ []) ++ (65536 ∷ 88 ∷ [])
    ++ struct_entry 94 (94 ∷ 9 ∷ 1 ∷ 0 ∷ []) fresh ++ struct_entry 96 (96 ∷ 12 ∷ 1 ∷ 1 ∷ []) fresh ++ fref_entry 96

-- names are compared by their bytes, the first operand's name handles kept; "types meet, finals are or-ed"; "a forward reference yields to
-- its namesake"; "other name, $BOT"; "$TOP yields"
pub structs_meet : (meet_of structs 98 103 ≡ record { words = structs ++ struct_entry 94 (94 ∷ 15 ∷ 1 ∷ 1 ∷ []) fresh; handle = 110 }) × (meet_of structs 98 108 ≡ there structs 98) × (meet_of structs 108 103 ≡ there structs 103) × (meet_of structs 18 98 ≡ there structs 98) × (meet_of structs 98 20 ≡ there structs 20)
unfolding meet_within follow rule_for pair_rule meet_struct follow_struct struct_rule named_rule same_words same_fields meet_each meet_fields remake fields_with either_final every deepest field_words make find_in entries rows first_of eqs size_of words_after fresh_words
structs_meet = (refl, refl, refl, refl, refl)

-- pointers of the fresh store: "structs meet, nils or-ed"
pub pointers_meet : (meet_of fresh 85 88 ≡ there fresh 88) × (meet_of fresh 85 91 ≡ there fresh 91) × (meet_of fresh 88 91 ≡ there fresh 82)
unfolding meet_within follow rule_for pair_rule meet_struct follow_struct struct_rule make find_in entries rows first_of eqs size_of words_after fresh_words deepest
pointers_meet = (refl, refl, refl)

-- isa asks for the second handle; where their meet would be new, it is no
pub isas : (isa_of fresh 9 15 ≡ true) × (isa_of fresh 15 9 ≡ false) × (isa_of fresh 9 28 ≡ false) × (isa_of fresh 6 9 ≡ true) × (isa_of fresh 88 82 ≡ true)
unfolding meet_within follow rule_for pair_rule meet_struct follow_struct struct_rule make find_in entries rows first_of eqs size_of words_after fresh_words deepest
isas = (refl, refl, refl, refl, refl)
