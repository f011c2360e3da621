-- dual, glb and lub on the fresh store and on document 01's example, computed. Assumes nothing.
use mathlib.Core.Path.{◌≡◌, refl}
use mathlib.Core.List.{List, ◌∷◌}
use Prim.Native.Nat.{ℕ}
use Rattle.words.specs.Words.{words_after, size_of, eqs}
use Rattle.words.specs.Table.{rows, entries, first_of, find_in}
use Rattle.words.specs.Made.{there, make}
use Rattle.wellformed.specs.Fresh.{fresh_words}
use Rattle.wellformed.specs.Entry.{deepest}
use Rattle.words.specs.Columns.{every}
use Rattle.makers.specs.Entries.{field_words}
use Rattle.structs.specs.Remade.{fields_with, remake}
use Rattle.walk_rules.specs.Tables.{form_for, finals_of, walk_fields}
use Rattle.walk.specs.Walk.{walk_each, follow_form, walk_within, walk_of, dual_of}
use Rattle.walk_rules.specs.declared.Walk.TheVariants.{Glb, Lub}

abbrev fresh : List ℕ
fresh = 94 ∷ fresh_words

-- "dual of 88 = 91"; then Bot, Top, Ctrl, XCtrl, $TOP, $BOT, float sizes, tuples, memories
pub duals : (dual_of fresh 88 ≡ there fresh 91) × (dual_of fresh 5 ≡ there fresh 6) × (dual_of fresh 8 ≡ there fresh 7) × (dual_of fresh 18 ≡ there fresh 20) × (dual_of fresh 22 ≡ there fresh 25) × (dual_of fresh 52 ≡ there fresh 58) × (dual_of fresh 55 ≡ there fresh 55) × (dual_of fresh 70 ≡ there fresh 73) × (dual_of fresh 76 ≡ there fresh 79)
unfolding walk_within follow_form walk_each form_for walk_fields finals_of remake fields_with every deepest field_words make find_in entries rows first_of eqs size_of words_after fresh_words
duals = (refl, refl, refl, refl, refl, refl, refl, refl, refl)

-- glb and lub: Bot, Ctrl, Ints, Floats, tuples, pointers, structs
pub bounds : (walk_of Glb fresh 8 ≡ there fresh 5) × (walk_of Glb fresh 7 ≡ there fresh 7) × (walk_of Glb fresh 9 ≡ there fresh 25) × (walk_of Glb fresh 55 ≡ there fresh 61) × (walk_of Glb fresh 85 ≡ there fresh 88) × (walk_of Lub fresh 7 ≡ there fresh 8) × (walk_of Lub fresh 64 ≡ there fresh 6) × (walk_of Lub fresh 82 ≡ there fresh 91) × (walk_of Lub fresh 9 ≡ there fresh 22) × (walk_of Glb fresh 20 ≡ there fresh 20)
unfolding walk_within follow_form walk_each form_for walk_fields finals_of remake fields_with every deepest field_words make find_in entries rows first_of eqs size_of words_after fresh_words
bounds = (refl, refl, refl, refl, refl, refl, refl, refl, refl, refl)
