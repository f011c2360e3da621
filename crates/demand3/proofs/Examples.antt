-- Lists of calls from a fresh store of 200 words, computed, and what demand3 says of them: one whose two orders of a meet agree, one with joins, duals, lub and glb, one with make_ro. The first of them with a
-- meet that keeps its first argument has not the laws. And the smallest lists that show why memory types and forward references stand outside. Assumes nothing.
use mathlib.Core.Path.{◌≡◌, refl}
use mathlib.Core.Bool.{true}
use mathlib.Core.Logic.{◌⊎◌, inl, inr, ⊎_elim}
use mathlib.Core.List.{List, [], ◌∷◌, ◌++◌}
use Prim.Native.Nat.{ℕ}
use native.Mathlib.Omega.{arith}
use lib.ListN.{replicate}
use Rattle.words.specs.Words.{words_after, size_of, fills, eqs}
use Rattle.words.specs.Table.{rows, entries, first_of, find_in, is_at}
use Rattle.words.specs.Made.{make}
use Rattle.bitset.specs.Bitset.{nowhere, also}
use Rattle.wellformed.specs.Fresh.{fresh_words}
use Rattle.wellformed.specs.Entry.{most_of, names_in, types_in, all, deepest, float_ok, zero_filled, values_ok, ok_entry}
use Rattle.words.specs.Columns.{every}
use Rattle.wellformed.specs.Form.{all_zero, heads_at, ok_rows, ok_entries, well_formed}
use Rattle.call.specs.Call.{Outcome, call, ask}
use Rattle.call.specs.Handles.{types_rows}
use Rattle.source.specs.Packed.{of_bytes, packed}
use Rattle.names.specs.Name.{name_entry}
use Rattle.makers.specs.Entries.{int_entry, field_words}
use Rattle.makers.specs.Makers.{fresh_call, fref_rows, struct_rows, part_rows}
use Rattle.meet_rules.specs.Names.{same_words}
use Rattle.meet_rules.specs.Rules.{pair_rule, rule_for, named_rule, struct_rule}
use Rattle.meet.specs.Meet.{follow_struct, meet_struct, follow, meet_within}
use Rattle.structs.specs.Remade.{fields_with, remake}
use Rattle.walk_rules.specs.Tables.{form_for, finals_of, walk_fields}
use Rattle.walk.specs.Walk.{walk_each, follow_form, walk_within}
use Rattle.finals.specs.Final.{all_final, is_final_within}
use Rattle.make_ro.specs.ReadOnly.{read_only_each, make_ro_within}
use Rattle.every_call.specs.Ty.{meet_call}
use Rattle.every_call.specs.Run.{Call, make_int, get_str, get_struct, make_struct_fref, get_mem, meet, meet_list, join, dual, glb, lub, make_ro, run_with, run, all_typed}
use Rattle.every_call.specs.MeetList.{meet_list_rows, merge_from}
use Rattle.demand3.specs.Demand3.{some, reaches_within, leaves, Gave, Isa, Plain, Bracketing, single, pair, Laws}
use Rattle.demand3.proofs.Demand3.{demand3}

abbrev lent : List ℕ
lent = replicate 200 0

abbrev start : List ℕ
start = (fresh_call lent).words

-- ---- "0..7 meet 8..8 = 0..8": 0..7 is 94, 8..8 is 97, and 0..8 is 100 in both orders

abbrev calls : List Call
calls = make_int 0 7 ∷ make_int 8 8 ∷ meet 94 97 ∷ meet 97 94 ∷ []

calls_typed : all_typed calls ≡ true
unfolding all_typed all
calls_typed = refl

-- the store that the list leaves; both orders' answers; both are isa it; and what the theorem asks of the two
pub computed : (leaves run calls start ≡ (103 ∷ fresh_words) ++ (int_entry 0 7 ++ (int_entry 8 8 ++ (int_entry 0 8 ++ replicate 97 0))))
    × Gave run calls start (meet 94 97) 100 × Gave run calls start (meet 97 94) 100
    × Isa run calls start 94 100 × Isa run calls start 97 100
    × Plain run calls start 94 × Plain run calls start 97
unfolding leaves call ask well_formed ok_entries ok_rows ok_entry all_zero heads_at nowhere also most_of every names_in types_in all deepest float_ok zero_filled values_ok fills eqs rows entries size_of words_after fresh_words fresh_call make find_in first_of is_at types_rows meet_within follow rule_for pair_rule some reaches_within
computed = (
  refl,
  inr (inr (inl (refl, refl))),
  inr (inr (inr (inl (refl, refl)))),
  refl,
  refl,
  record { type = refl; memory = refl; forward = refl },
  record { type = refl; memory = refl; forward = refl },
)

one : Bracketing run calls start meet 100
one = pair (single 94) (single 97) computed.1

other : Bracketing run calls start meet 100
other = pair (single 97) (single 94) computed.2

turned : (x : ℕ) → (x ≡ 94) ⊎ (x ≡ 97) → (x ≡ 97) ⊎ (x ≡ 94)
turned x = ⊎_elim (λ e. inr e) (λ e. inl e)

back : (x : ℕ) → (x ≡ 97) ⊎ (x ≡ 94) → (x ≡ 94) ⊎ (x ≡ 97)
back x = ⊎_elim (λ e. inr e) (λ e. inl e)

-- the theorem on this list says of the two bracketings what they compute to
pub agree : ◌≡◌ {A = ℕ} 100 100
unfolding one other fresh_call
agree = (demand3 start (inl (lent, refl, refl)) calls calls_typed).meets_agree one other (λ x i. ⊎_elim (λ (e : x ≡ 94). rw e computed.5) (λ (e : x ≡ 97). rw e computed.6) i) (λ x. (turned x, back x))

-- ---- "0..7 join 4..9 = 4..7": 0..7 is 94, 4..9 is 97, and 4..7 is 109 in both orders, behind the two duals and their meet; "dual of 88 = 91"; the lub of 88 is 85, whose glb is 88

abbrev others : List Call
others = make_int 0 7 ∷ make_int 4 9 ∷ join 94 97 ∷ join 97 94 ∷ dual 88 ∷ dual 91 ∷ lub 88 ∷ glb 85 ∷ []

others_typed : all_typed others ≡ true
unfolding all_typed all
others_typed = refl

pub others_gave : Gave run others start (join 94 97) 109 × Gave run others start (join 97 94) 109 × Gave run others start (dual 88) 91 × Gave run others start (dual 91) 88 × Gave run others start (lub 88) 85 × Gave run others start (glb 85) 88
unfolding call well_formed ok_entries ok_rows ok_entry all_zero heads_at nowhere also most_of every names_in types_in all deepest float_ok zero_filled values_ok fills eqs rows entries size_of words_after fresh_words fresh_call make find_in first_of is_at types_rows meet_within follow rule_for pair_rule walk_within follow_form walk_each form_for walk_fields finals_of remake fields_with field_words
others_gave = (
  inr (inr (inl (refl, refl))),
  inr (inr (inr (inl (refl, refl)))),
  inr (inr (inr (inr (inl (refl, refl))))),
  inr (inr (inr (inr (inr (inl (refl, refl)))))),
  inr (inr (inr (inr (inr (inr (inl (refl, refl))))))),
  inr (inr (inr (inr (inr (inr (inr (inl (refl, refl)))))))),
)

others_plain : Plain run others start 94 × Plain run others start 97 × Plain run others start 88 × Plain run others start 85
unfolding leaves call well_formed ok_entries ok_rows ok_entry all_zero heads_at nowhere also most_of every names_in types_in all deepest float_ok zero_filled values_ok fills eqs rows entries size_of words_after fresh_words fresh_call make find_in first_of is_at types_rows meet_within follow rule_for pair_rule some reaches_within walk_within follow_form walk_each form_for walk_fields finals_of remake fields_with field_words
others_plain = (
  record { type = refl; memory = refl; forward = refl },
  record { type = refl; memory = refl; forward = refl },
  record { type = refl; memory = refl; forward = refl },
  record { type = refl; memory = refl; forward = refl },
)

-- what the theorem says of them
pub others_hold : Isa run others start 109 94 × (◌≡◌ {A = ℕ} 88 88) × Isa run others start 85 88 × Isa run others start 85 88
unfolding fresh_call
others_hold =
    let laws = demand3 start (inl (lent, refl, refl)) others others_typed in
    let p : Bracketing run others start join 109 = pair (single 94) (single 97) others_gave.0 in (
      laws.joins_below p (λ x i. ⊎_elim (λ (e : x ≡ 94). rw e others_plain.0) (λ (e : x ≡ 97). rw e others_plain.1) i) 94 (inl refl),
      laws.dual_back 88 91 88 others_plain.2 others_gave.2 others_gave.3,
      laws.lub_below 88 85 others_plain.2 others_gave.4,
      laws.glb_above 85 88 others_plain.3 others_gave.5,
    )

-- ---- a struct X with one field, an Int that is not final, is 96, and its read-only form 101

abbrev name : List ℕ
name = 88 ∷ []

abbrev finals : List Call
finals = get_str name ∷ get_struct 94 (94 ∷ 9 ∷ 0 ∷ 0 ∷ []) ∷ make_ro 96 ∷ []

finals_typed : all_typed finals ≡ true
unfolding all_typed all
finals_typed = refl

pub finals_gave : Gave run finals start (make_ro 96) 101 × Plain run finals start 96
unfolding leaves call well_formed ok_entries ok_rows ok_entry all_zero heads_at nowhere also most_of every names_in types_in all deepest float_ok zero_filled values_ok fills eqs rows entries size_of words_after fresh_words fresh_call make find_in first_of is_at types_rows struct_rows of_bytes packed name_entry field_words make_ro_within read_only_each is_final_within all_final remake fields_with some reaches_within
finals_gave = (inr (inr (inl (refl, refl))), record { type = refl; memory = refl; forward = refl })

pub finals_hold : Isa run finals start 96 101
unfolding fresh_call
finals_hold = (demand3 start (inl (lent, refl, refl)) finals finals_typed).read_only_above 96 101 finals_gave.1 finals_gave.0

-- ---- a meet that keeps its first argument has not the laws

-- the meet of a type with itself is the type
abbrev first : ℕ → ℕ → List ℕ → Outcome
first a b = meet_call a a

shortcut : Gave (run_with first) calls start (meet 94 97) 94 × Gave (run_with first) calls start (meet 97 94) 97 × Plain (run_with first) calls start 94 × Plain (run_with first) calls start 97
unfolding leaves call well_formed ok_entries ok_rows ok_entry all_zero heads_at nowhere also most_of every names_in types_in all deepest float_ok zero_filled values_ok fills eqs rows entries size_of words_after fresh_words fresh_call make find_in first_of is_at types_rows meet_within follow rule_for pair_rule some reaches_within
shortcut = (inr (inr (inl (refl, refl))), inr (inr (inr (inl (refl, refl)))), record { type = refl; memory = refl; forward = refl }, record { type = refl; memory = refl; forward = refl })

pub shortcut_fails : Laws (run_with first) calls start → ⊥
shortcut_fails laws =
    let p : Bracketing (run_with first) calls start meet 94 = pair (single 94) (single 97) shortcut.0 in
    let q : Bracketing (run_with first) calls start meet 97 = pair (single 97) (single 94) shortcut.1 in
    let e : ◌≡◌ {A = ℕ} 94 97 = laws.meets_agree p q (λ x i. ⊎_elim (λ (e : x ≡ 94). rw e shortcut.2) (λ (e : x ≡ 97). rw e shortcut.3) i) (λ x. (turned x, back x)) in
    omega arith

-- ---- memory: Mem (1, Top) is 94, Mem (2, Top) is 97; their meet is 76, which yields, so that its meet with 94 is 94: two handles for the set of 94 and 97

abbrev memories : List Call
memories = get_mem 1 6 ∷ get_mem 2 6 ∷ meet 94 97 ∷ meet 76 94 ∷ []

pub memory_outside : Gave run memories start (meet 94 97) 76 × Gave run memories start (meet 76 94) 94
unfolding call well_formed ok_entries ok_rows ok_entry all_zero heads_at nowhere also most_of every names_in types_in all deepest float_ok zero_filled values_ok fills eqs rows entries size_of words_after fresh_words fresh_call make find_in first_of is_at types_rows part_rows meet_within follow rule_for pair_rule
memory_outside = (inr (inr (inl (refl, refl))), inr (inr (inr (inl (refl, refl)))))

-- the same of lists: that of 94 and 97 is 76, and with 94 once more behind them it is 94
abbrev memory_lists : List Call
memory_lists = get_mem 1 6 ∷ get_mem 2 6 ∷ meet_list (94 ∷ 97 ∷ []) ∷ meet_list (94 ∷ 97 ∷ 94 ∷ []) ∷ []

pub memory_lists_outside : Gave run memory_lists start (meet_list (94 ∷ 97 ∷ [])) 76 × Gave run memory_lists start (meet_list (94 ∷ 97 ∷ 94 ∷ [])) 94
unfolding call well_formed ok_entries ok_rows ok_entry all_zero heads_at nowhere also most_of every names_in types_in all deepest float_ok zero_filled values_ok fills eqs rows entries size_of words_after fresh_words fresh_call make find_in first_of is_at types_rows part_rows meet_list_rows merge_from meet_within follow rule_for pair_rule
memory_lists_outside = (inr (inr (inl (refl, refl))), inr (inr (inr (inl (refl, refl)))))

-- ---- forward references: the name X is 94, its forward reference 96, the struct X without fields 98; each of the two is its own dual, 96 isa 98, and 98 is not isa 96

abbrev forwards : List Call
forwards = get_str name ∷ make_struct_fref 94 ∷ get_struct 94 [] ∷ dual 96 ∷ dual 98 ∷ []

pub forward_outside : Gave run forwards start (dual 96) 96 × Gave run forwards start (dual 98) 98 × Isa run forwards start 96 98 × (Isa run forwards start 98 96 → ⊥)
unfolding leaves call ask well_formed ok_entries ok_rows ok_entry all_zero heads_at nowhere also most_of every names_in types_in all deepest float_ok zero_filled values_ok fills eqs rows entries size_of words_after fresh_words fresh_call make find_in first_of is_at types_rows fref_rows struct_rows of_bytes packed name_entry field_words meet_within follow rule_for pair_rule meet_struct follow_struct struct_rule named_rule same_words walk_within follow_form walk_each form_for walk_fields finals_of remake fields_with
forward_outside = (inr (inr (inr (inl (refl, refl)))), inr (inr (inr (inr (inl (refl, refl))))), refl, λ e. let z : ◌≡◌ {A = ℕ} 0 1 = cc in omega arith)

-- ---- the third type of a join: the forward reference X, 96, isa the structs X without fields, 98, and with one, 100, and is not isa their join, $TOP

abbrev thirds : List Call
thirds = get_str name ∷ make_struct_fref 94 ∷ get_struct 94 [] ∷ get_struct 94 (94 ∷ 25 ∷ 0 ∷ 0 ∷ []) ∷ join 98 100 ∷ []

pub third_outside : Gave run thirds start (join 98 100) 18 × Isa run thirds start 96 98 × Isa run thirds start 96 100 × (Isa run thirds start 96 18 → ⊥)
unfolding leaves call ask well_formed ok_entries ok_rows ok_entry all_zero heads_at nowhere also most_of every names_in types_in all deepest float_ok zero_filled values_ok fills eqs rows entries size_of words_after fresh_words fresh_call make find_in first_of is_at types_rows fref_rows struct_rows of_bytes packed name_entry field_words meet_within follow rule_for pair_rule meet_struct follow_struct struct_rule named_rule same_words walk_within follow_form walk_each form_for walk_fields finals_of remake fields_with
third_outside = (inr (inr (inr (inr (inl (refl, refl))))), refl, refl, λ e. let z : ◌≡◌ {A = ℕ} 0 1 = cc in omega arith)
