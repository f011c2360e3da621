-- A well-formed store with a second Bot, which no calls grow: that no two entries are equal is needed. Assumes nothing.
use mathlib.Core.Path.{◌≡◌, refl}
use mathlib.Core.Bool.{true}
use mathlib.Core.List.Memᴰ
use mathlib.Core.List.{List, [], ◌∷◌, ◌++◌}
use Prim.Native.Nat.{ℕ, ◌^◌}
use native.Mathlib.Omega.{arith}
use Rattle.words.specs.Words.{words_after, size_of, fills, eqs}
use Rattle.words.specs.Columns.{every}
use Rattle.words.specs.Table.{Row, rows, entries, first_of, RowIn, Own}
use Rattle.std.specs.Prelude.{Option, Some}
use Rattle.bitset.specs.Bitset.{nowhere, also}
use Rattle.wellformed.specs.Fresh.{fresh_words}
use Rattle.wellformed.specs.Entry.{most_of, names_in, types_in, all, deepest, float_ok, zero_filled, values_ok, ok_entry}
use Rattle.wellformed.specs.Form.{all_zero, heads_at, ok_rows, ok_entries, well_formed, used_words}
use Rattle.loaded.specs.Loaded.{AreWords}
use Rattle.loaded.proofs.Small.{tested}
use Rattle.regrown.specs.Regrown.{GrownByCalls}
use Rattle.regrown.proofs.Regrown.{grown_exactly}

-- the fresh words and a Bot at 94
abbrev two_bots : List ℕ
two_bots = (95 ∷ fresh_words) ++ (257 ∷ [])

pub two_bots_well : well_formed two_bots ≡ true
unfolding well_formed ok_entries all_zero fresh_words eqs fills rows entries size_of words_after ok_rows heads_at nowhere also ok_entry most_of every names_in types_in all deepest float_ok zero_filled values_ok
two_bots_well = refl

two_bots_words : AreWords two_bots
unfolding all fresh_words
two_bots_words = tested (2 ^ 64) (omega arith) two_bots refl

pub second_bot : GrownByCalls two_bots → ⊥
unfolding entries rows size_of words_after fresh_words first_of eqs
second_bot g =
    let own : Own (entries (used_words two_bots)) = ((grown_exactly two_bots two_bots_words).0 g).1 in
    let bot : Row = record { at = 94; words = 257 ∷ [] } in
    let m : RowIn bot (entries (used_words two_bots)) = Memᴰ.append_right (rows 1 0 fresh_words) (Memᴰ.head refl) in
    let first : ◌≡◌ {A = Option ℕ} (Some 5) (Some 94) = own bot m in
    let z : ◌≡◌ {A = ℕ} 5 94 = cc in
    absurd (omega arith)
