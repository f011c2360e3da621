-- Every law of demand 3, once and in the order of the record `Laws`, on one list of calls from a fresh store of 200 words. Three Ints are merged by meets and by joins: nested, turned round with
-- one of them repeated, and nested the other way; and by merges of lists. The list is computed; each lemma whose name ends in "shown" is what the theorem says of it, in numbers. Assumes nothing.
use mathlib.Core.Path.{◌≡◌, refl}
use mathlib.Core.Bool.{true, false}
use mathlib.Core.Logic.{◌⊎◌, inl, inr, ◌↔◌}
use mathlib.Core.List.{List, [], ◌∷◌, ◌++◌}
use Prim.Native.Nat.{ℕ, zero, suc}
use lib.ListN.{replicate}
use Rattle.words.specs.Kinds.{Fref, Mem}
use Rattle.words.specs.Words.{words_after, size_of, fills, eqs}
use Rattle.words.specs.Table.{rows, entries, first_of, find_in, is_at}
use Rattle.words.specs.Made.{make}
use Rattle.bitset.specs.Bitset.{also}
use Rattle.wellformed.specs.Fresh.{fresh_words}
use Rattle.wellformed.specs.Entry.{most_of, names_in, types_in, all, deepest, float_ok, zero_filled, values_ok, ok_entry}
use Rattle.words.specs.Columns.{every}
use Rattle.wellformed.specs.Form.{all_zero, heads_at, ok_rows, ok_entries, well_formed, used_words}
use Rattle.call.specs.Call.{Reply, handle, flag, call, ask}
use Rattle.call.specs.Handles.{types_rows}
use Rattle.source.specs.Packed.{of_bytes, packed}
use Rattle.names.specs.Name.{name_entry}
use Rattle.makers.specs.Entries.{int_entry, field_words}
use Rattle.makers.specs.Makers.{fresh_call, struct_rows}
use Rattle.meet_rules.specs.Rules.{pair_rule, rule_for}
use Rattle.meet.specs.Meet.{follow, meet_within}
use Rattle.structs.specs.Remade.{fields_with, remake}
use Rattle.walk_rules.specs.Tables.{form_for}
use Rattle.walk.specs.Walk.{follow_form, walk_within}
use Rattle.finals.specs.Final.{all_final, is_final_within}
use Rattle.make_ro.specs.ReadOnly.{read_only_each, make_ro_within}
use Rattle.every_call.specs.Run.{Call, make_int, get_str, get_struct, meet, meet_list, isa, join, dual, glb, lub, make_ro, run, all_typed}
use Rattle.every_call.specs.MeetList.{meet_list_rows, merge_from}
use Rattle.demand3.specs.Demand3.{some, reaches_within, reaches, leaves, Gave, Isa, Plain, Bracketing, single, pair, whole, none, more, AllPlain, SameSet, Laws}
use Rattle.demand3.proofs.Demand3.{demand3}

abbrev lent : List ℕ
lent = replicate 200 0

abbrev start : List ℕ
start = (fresh_call lent).words

-- ---- the list, what its calls answer, and the store that it leaves

-- a is 94, b is 97, c is 100
abbrev calls : List Call
calls =
    make_int 0 9 ∷ make_int 1 12 ∷ make_int 2 20 ∷
    -- the meets (a ∧ b) ∧ c, then c ∧ (b ∧ (a ∧ a)), then a ∧ (b ∧ c)
    meet 94 97 ∷ meet 103 100 ∷
    meet 94 94 ∷ meet 97 94 ∷ meet 100 103 ∷
    meet 97 100 ∷ meet 94 109 ∷
    -- the joins, likewise
    join 94 97 ∷ join 121 100 ∷
    join 94 94 ∷ join 97 94 ∷ join 100 121 ∷
    join 97 100 ∷ join 94 136 ∷
    -- the duals of a, of that dual and of 0..20; lub and glb of a
    dual 94 ∷ dual 112 ∷ dual 106 ∷ lub 94 ∷ glb 94 ∷
    -- the name X, the struct X with one field of type a that is not final, and its read-only form
    get_str (88 ∷ []) ∷ get_struct 142 (142 ∷ 94 ∷ 0 ∷ 0 ∷ []) ∷ make_ro 144 ∷
    -- merges of lists: c, a, b and a again; a, b and c; a ∧ b and c; and of no type
    meet_list (100 ∷ 94 ∷ 97 ∷ 94 ∷ []) ∷ meet_list (94 ∷ 97 ∷ 100 ∷ []) ∷ meet_list (103 ∷ 100 ∷ []) ∷ meet_list [] ∷ []

-- call by call
abbrev given : List Reply
given =
    handle 94 ∷ handle 97 ∷ handle 100 ∷
    -- 0..20 is 106, three times; 0..12 is 103, 1..20 is 109
    handle 103 ∷ handle 106 ∷
    handle 94 ∷ handle 103 ∷ handle 106 ∷
    handle 109 ∷ handle 106 ∷
    -- 2..9 is 130, three times; 1..9 is 121, 2..12 is 136
    handle 121 ∷ handle 130 ∷
    handle 94 ∷ handle 121 ∷ handle 130 ∷
    handle 136 ∷ handle 130 ∷
    -- 9..0 is 112, 20..0 is 139
    handle 112 ∷ handle 94 ∷ handle 139 ∷ handle 22 ∷ handle 25 ∷
    handle 142 ∷ handle 144 ∷ handle 149 ∷
    -- 0..20 three times, and Top
    handle 106 ∷ handle 106 ∷ handle 106 ∷ handle 6 ∷ []

-- the Ints from 94 on, the name X at 142, the structs at 144 and 149
abbrev store : List ℕ
store =
    (154 ∷ fresh_words) ++ (int_entry 0 9 ++ int_entry 1 12 ++ int_entry 2 20 ++ int_entry 0 12 ++ int_entry 0 20 ++ int_entry 1 20
    ++ int_entry 9 0 ++ int_entry 12 1 ++ int_entry 9 1 ++ int_entry 1 9 ++ int_entry 20 2 ++ int_entry 9 2 ++ int_entry 2 9 ++ int_entry 12 2 ++ int_entry 2 12 ++ int_entry 20 0
    ++ name_entry (88 ∷ []) ++ (66056 ∷ 142 ∷ 142 ∷ 94 ∷ 0 ∷ []) ++ (66056 ∷ 142 ∷ 142 ∷ 94 ∷ 1 ∷ []) ++ replicate 46 0)

calls_typed : all_typed calls ≡ true
unfolding all_typed all
calls_typed = refl

-- what the calls of a list answer, each on the store that those before it left
answers : List Call → List ℕ → List Reply
answers [] ws = []
answers (c ∷ cs) ws = (run c ws).reply ∷ answers cs (run c ws).words

-- the list is computed once, here
computed : (answers calls start ≡ given) × (leaves run calls start ≡ store)
unfolding answers leaves call well_formed ok_entries ok_rows ok_entry all_zero heads_at also most_of every names_in types_in all deepest float_ok zero_filled values_ok fills eqs rows entries size_of words_after fresh_words fresh_call make find_in first_of is_at types_rows struct_rows of_bytes packed name_entry field_words meet_within follow rule_for pair_rule walk_within follow_form form_for remake fields_with make_ro_within read_only_each is_final_within all_final meet_list_rows merge_from
computed = (refl, refl)

-- the call behind n others is c, and the answer behind n others is h
abbrev At : List Call → List Reply → ℕ → Call → ℕ → Type 0
At [] rs n c h = ⊥
At (d ∷ cs) [] n c h = ⊥
At (d ∷ cs) (r ∷ rs) zero c h = (d ≡ c) × (r ≡ handle h)
At (d ∷ cs) (r ∷ rs) (suc n) c h = At cs rs n c h

gave_at : (cs : List Call) (ws : List ℕ) (n : ℕ) (c : Call) (h : ℕ) → At cs (answers cs ws) n c h → Gave run cs ws c h
unfolding answers
gave_at [] ws n c h = elim [ ]
gave_at (d ∷ cs) ws zero c h = λ g. inl g
gave_at (d ∷ cs) ws (suc n) c h = λ g. inr (gave_at cs (run d ws).words n c h g)

gave : (n : ℕ) {c : Call} {h : ℕ} → At calls given n c h → Gave run calls start c h
gave n {c} {h} g = gave_at calls start n c h (rw computed.0 g)

pub met : Gave run calls start (meet 94 97) 103 × Gave run calls start (meet 103 100) 106
    × Gave run calls start (meet 94 94) 94 × Gave run calls start (meet 97 94) 103 × Gave run calls start (meet 100 103) 106
    × Gave run calls start (meet 97 100) 109 × Gave run calls start (meet 94 109) 106
met = (gave 3 (refl, refl), gave 4 (refl, refl), gave 5 (refl, refl), gave 6 (refl, refl), gave 7 (refl, refl), gave 8 (refl, refl), gave 9 (refl, refl))

pub joined : Gave run calls start (join 94 97) 121 × Gave run calls start (join 121 100) 130
    × Gave run calls start (join 94 94) 94 × Gave run calls start (join 97 94) 121 × Gave run calls start (join 100 121) 130
    × Gave run calls start (join 97 100) 136 × Gave run calls start (join 94 136) 130
joined = (gave 10 (refl, refl), gave 11 (refl, refl), gave 12 (refl, refl), gave 13 (refl, refl), gave 14 (refl, refl), gave 15 (refl, refl), gave 16 (refl, refl))

pub others : Gave run calls start (dual 94) 112 × Gave run calls start (dual 112) 94 × Gave run calls start (dual 106) 139
    × Gave run calls start (lub 94) 22 × Gave run calls start (glb 94) 25 × Gave run calls start (make_ro 144) 149
others = (gave 17 (refl, refl), gave 18 (refl, refl), gave 19 (refl, refl), gave 20 (refl, refl), gave 21 (refl, refl), gave 24 (refl, refl))

pub listed : Gave run calls start (meet_list (100 ∷ 94 ∷ 97 ∷ 94 ∷ [])) 106 × Gave run calls start (meet_list (94 ∷ 97 ∷ 100 ∷ [])) 106 × Gave run calls start (meet_list (103 ∷ 100 ∷ [])) 106 × Gave run calls start (meet_list []) 6
listed = (gave 25 (refl, refl), gave 26 (refl, refl), gave 27 (refl, refl), gave 28 (refl, refl))

plain_in : (h : ℕ) → types_rows (h ∷ []) (used_words store) ≡ 0 → reaches (used_words store) Mem h ≡ false → reaches (used_words store) Fref h ≡ false → Plain run calls start h
plain_in h type memory forward = record { type = rw computed.1 type; memory = rw computed.1 memory; forward = rw computed.1 forward }

-- a, b, c, 0..20, the first struct and 2..2, which is 28, are types that reach no memory type and no forward reference
pub plain : Plain run calls start 94 × Plain run calls start 97 × Plain run calls start 100 × Plain run calls start 106 × Plain run calls start 144 × Plain run calls start 28
unfolding types_rows rows entries size_of words_after fresh_words name_entry packed is_at every types_in all some reaches_within
plain = (plain_in 94 refl refl refl, plain_in 97 refl refl refl, plain_in 100 refl refl refl, plain_in 106 refl refl refl, plain_in 144 refl refl refl, plain_in 28 refl refl refl)

isa_in : (x y : ℕ) → (run (isa x y) store).reply ≡ flag true → Isa run calls start x y
isa_in x y e = rw computed.1 e

-- a, b and c are isa 0..255, which is 40, and 2..2, which is 28, isa each of them
pub bounds : Isa run calls start 94 40 × Isa run calls start 97 40 × Isa run calls start 100 40 × Isa run calls start 28 94 × Isa run calls start 28 97 × Isa run calls start 28 100
unfolding ask well_formed ok_entries ok_rows ok_entry all_zero heads_at also most_of every names_in types_in all deepest float_ok zero_filled values_ok fills eqs rows entries size_of words_after fresh_words name_entry of_bytes packed make find_in first_of is_at types_rows meet_within follow rule_for pair_rule
bounds = (isa_in 94 40 refl, isa_in 97 40 refl, isa_in 100 40 refl, isa_in 28 94 refl, isa_in 28 97 refl, isa_in 28 100 refl)

-- ---- a set of three

-- what holds of a, b and c holds of each member of (a b) c
each : (P : ℕ → Type 0) → P 94 → P 97 → P 100 → (x : ℕ) → ((x ≡ 94) ⊎ (x ≡ 97)) ⊎ (x ≡ 100) → P x
each P p q r x (inl (inl e)) = rw e p
each P p q r x (inl (inr e)) = rw e q
each P p q r x (inr e) = rw e r

-- the members of (a b) c are those of c (b (a a))
turned : (x : ℕ) → (((x ≡ 94) ⊎ (x ≡ 97)) ⊎ (x ≡ 100)) ↔ ((x ≡ 100) ⊎ ((x ≡ 97) ⊎ ((x ≡ 94) ⊎ (x ≡ 94))))
turned x = (
  elim [ inl (inl e) ↦ inr (inr (inl e)) | inl (inr e) ↦ inr (inl e) | inr e ↦ inl e ],
  elim [ inl e ↦ inr e | inr (inl e) ↦ inl (inr e) | inr (inr (inl e)) ↦ inl (inl e) | inr (inr (inr e)) ↦ inl (inl e) ],
)

-- and those of a (b c)
regrouped : (x : ℕ) → (((x ≡ 94) ⊎ (x ≡ 97)) ⊎ (x ≡ 100)) ↔ ((x ≡ 94) ⊎ ((x ≡ 97) ⊎ (x ≡ 100)))
regrouped x = (
  elim [ inl (inl e) ↦ inl e | inl (inr e) ↦ inr (inl e) | inr e ↦ inr (inr e) ],
  elim [ inl e ↦ inl (inl e) | inr (inl e) ↦ inl (inr e) | inr (inr e) ↦ inr e ],
)

laws : Laws run calls start
laws = demand3 start (inl (lent, refl, refl)) calls calls_typed

-- ---- meets

-- (a ∧ b) ∧ c
pub meets : Bracketing run calls start meet 106
meets = pair (pair (single 94) (single 97) met.0) (single 100) met.1

-- c ∧ (b ∧ (a ∧ a))
pub meets_turned : Bracketing run calls start meet 106
meets_turned = pair (single 100) (pair (single 97) (pair (single 94) (single 94) met.2) met.3) met.4

pub meets_plain : AllPlain run calls start meets
unfolding meets
meets_plain = each (Plain run calls start) plain.0 plain.1 plain.2

pub meets_same : SameSet run calls start meets meets_turned
unfolding meets meets_turned
meets_same = turned

-- both are 0..20
pub meets_agree_shown : ◌≡◌ {A = ℕ} 106 106
meets_agree_shown = laws.meets_agree meets meets_turned meets_plain meets_same

-- a ∧ (b ∧ c) is 0..20 too: so is every handle that its last call gave
pub meets_agree_regrouped : (h : ℕ) → Gave run calls start (meet 94 109) h → 106 ≡ h
unfolding meets
meets_agree_regrouped h g = laws.meets_agree meets (pair (single 94) (pair (single 97) (single 100) met.5) g) meets_plain regrouped

-- 0..9 isa 0..20, 1..12 isa 0..20, 2..20 isa 0..20
pub meets_above_shown : Isa run calls start 94 106 × Isa run calls start 97 106 × Isa run calls start 100 106
unfolding meets
meets_above_shown = (laws.meets_above meets meets_plain 94 (inl (inl refl)), laws.meets_above meets meets_plain 97 (inl (inr refl)), laws.meets_above meets meets_plain 100 (inr refl))

-- 0..20 isa 0..255, because 0..9, 1..12 and 2..20 do
pub meets_least_shown : Isa run calls start 106 40
unfolding meets
meets_least_shown = laws.meets_least meets meets_plain 40 (λ none_in. absurd (none_in 94 (inl (inl refl)))) (each (λ x. Isa run calls start x 40) bounds.0 bounds.1 bounds.2)

-- ---- merges of lists

-- c, a, b and a again: each is a bracketing by itself
pub list : Bracketing run calls start meet 106
list = whole refl (more (single 100) (more (single 94) (more (single 97) (more (single 94) none)))) listed.0

-- its members are those of (a b) c
list_same : (x : ℕ) → (((x ≡ 94) ⊎ (x ≡ 97)) ⊎ (x ≡ 100)) ↔ ((x ≡ 100) ⊎ ((x ≡ 94) ⊎ ((x ≡ 97) ⊎ ((x ≡ 94) ⊎ ⊥))))
list_same x = (
  elim [ inl (inl e) ↦ inr (inl e) | inl (inr e) ↦ inr (inr (inl e)) | inr e ↦ inl e ],
  elim [ inl e ↦ inr e | inr (inl e) ↦ inl (inl e) | inr (inr (inl e)) ↦ inl (inr e) | inr (inr (inr (inl e))) ↦ inl (inl e) | inr (inr (inr (inr z))) ↦ absurd z ],
)

-- lists and single meets together: both are 0..20
pub meets_agree_listed : ◌≡◌ {A = ℕ} 106 106
unfolding meets list
meets_agree_listed = laws.meets_agree meets list meets_plain list_same

-- a list of which one is a meet: (a ∧ b) and c; so is every handle that this call gave
pub meets_agree_nested : (h : ℕ) → Gave run calls start (meet_list (103 ∷ 100 ∷ [])) h → 106 ≡ h
unfolding meets
meets_agree_nested h g = laws.meets_agree meets (whole refl (more (pair (single 94) (single 97) met.0) (more (single 100) none)) g) meets_plain (λ x. (
  elim [ inl e ↦ inl e | inr e ↦ inr (inl e) ],
  elim [ inl e ↦ inl e | inr (inl e) ↦ inr e | inr (inr z) ↦ absurd z ],
))

-- of no type: Top, which isa every type
pub meets_least_empty : Isa run calls start 6 40
unfolding types_rows rows entries size_of words_after fresh_words name_entry packed is_at every all
meets_least_empty = laws.meets_least (whole refl none listed.3) (λ x i. absurd i) 40 (λ z. rw computed.1 refl) (λ x i. absurd i)

-- two lists of one set: every handle that the second gave is 0..20
pub lists_agree_shown : (h : ℕ) → Gave run calls start (meet_list (94 ∷ 97 ∷ 100 ∷ [])) h → 106 ≡ h
lists_agree_shown h g = laws.lists_agree (100 ∷ 94 ∷ 97 ∷ 94 ∷ []) (94 ∷ 97 ∷ 100 ∷ []) 106 h listed.0 g
    (λ x i. each (Plain run calls start) plain.0 plain.1 plain.2 x ((list_same x).1 i))
    (λ x. (
      elim [ inl e ↦ inr (inr (inl e)) | inr (inl e) ↦ inl e | inr (inr (inl e)) ↦ inr (inl e) | inr (inr (inr (inl e))) ↦ inl e | inr (inr (inr (inr z))) ↦ absurd z ],
      elim [ inl e ↦ inr (inl e) | inr (inl e) ↦ inr (inr (inl e)) | inr (inr (inl e)) ↦ inl e | inr (inr (inr z)) ↦ absurd z ],
    ))

-- ---- joins

-- (a ∨ b) ∨ c
pub joins : Bracketing run calls start join 130
joins = pair (pair (single 94) (single 97) joined.0) (single 100) joined.1

-- c ∨ (b ∨ (a ∨ a))
pub joins_turned : Bracketing run calls start join 130
joins_turned = pair (single 100) (pair (single 97) (pair (single 94) (single 94) joined.2) joined.3) joined.4

pub joins_plain : AllPlain run calls start joins
unfolding joins
joins_plain = each (Plain run calls start) plain.0 plain.1 plain.2

pub joins_same : SameSet run calls start joins joins_turned
unfolding joins joins_turned
joins_same = turned

-- both are 2..9
pub joins_agree_shown : ◌≡◌ {A = ℕ} 130 130
joins_agree_shown = laws.joins_agree joins joins_turned joins_plain joins_same

-- a ∨ (b ∨ c) is 2..9 too: so is every handle that its last call gave
pub joins_agree_regrouped : (h : ℕ) → Gave run calls start (join 94 136) h → 130 ≡ h
unfolding joins
joins_agree_regrouped h g = laws.joins_agree joins (pair (single 94) (pair (single 97) (single 100) joined.5) g) joins_plain regrouped

-- 2..9 isa 0..9, 2..9 isa 1..12, 2..9 isa 2..20
pub joins_below_shown : Isa run calls start 130 94 × Isa run calls start 130 97 × Isa run calls start 130 100
unfolding joins
joins_below_shown = (laws.joins_below joins joins_plain 94 (inl (inl refl)), laws.joins_below joins joins_plain 97 (inl (inr refl)), laws.joins_below joins joins_plain 100 (inr refl))

-- 2..2 isa 2..9, because it isa 0..9, 1..12 and 2..20
pub joins_greatest_shown : Isa run calls start 28 130
unfolding joins
joins_greatest_shown = laws.joins_greatest joins joins_plain 28 plain.5.forward (each (λ x. Isa run calls start 28 x) bounds.3 bounds.4 bounds.5)

-- ---- the other calls

-- the dual of 0..9 is 9..0, which is 112; every handle that a dual of 9..0 gave is that of 0..9
pub dual_back_shown : (h : ℕ) → Gave run calls start (dual 112) h → h ≡ 94
dual_back_shown h g = laws.dual_back 94 112 h plain.0 others.0 g

-- 0..9 isa 0..20 exactly where 20..0 isa 9..0
pub dual_turns_shown : Isa run calls start 94 106 ↔ Isa run calls start 139 112
dual_turns_shown = laws.dual_turns 94 106 112 139 plain.0 plain.3 others.0 others.2

-- the lub of 0..9, the Int that isa every Int, isa 0..9
pub lub_below_shown : Isa run calls start 22 94
lub_below_shown = laws.lub_below 94 22 plain.0 others.3

-- 0..9 isa its glb, the Int that every Int isa
pub glb_above_shown : Isa run calls start 94 25
glb_above_shown = laws.glb_above 94 25 plain.0 others.4

-- the struct whose field is not final isa the struct whose field is
pub read_only_above_shown : Isa run calls start 144 149
read_only_above_shown = laws.read_only_above 144 149 plain.4 others.5
