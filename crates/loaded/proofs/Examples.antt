-- The definitions of the saved catalogue, computed on a few files: a fresh store's, one with an Int, trailers whose sums would run over 64 bits. Assumes nothing.
use mathlib.Core.Path.{◌≡◌, refl}
use mathlib.Core.Bool.{Bool, true, false}
use mathlib.Core.List.{List, [], ◌∷◌, ◌++◌}
use Prim.Native.Nat.{ℕ}
use lib.ListN.{replicate}
use Rattle.words.specs.Words.{words_after, size_of, fills, eqs}
use Rattle.words.specs.Columns.{every}
use Rattle.words.specs.Table.{rows, entries, first_of}
use Rattle.bitset.specs.Bitset.{nowhere, also}
use Rattle.source.specs.Packed.{of_bytes, packed}
use Rattle.wellformed.specs.Fresh.{fresh_words}
use Rattle.wellformed.specs.Entry.{most_of, names_in, types_in, all, deepest, float_ok, zero_filled, values_ok, ok_entry}
use Rattle.wellformed.specs.Form.{all_zero, heads_at, ok_rows, ok_entries, well_formed, behind_fresh}
use Rattle.call.specs.Call.{left, number, refused}
use Rattle.distinct.specs.Distinct.{own, each_own}
use Rattle.catalogue_file.specs.File.{bytes_of, spelled, file_of, trailed}
use Rattle.catalogue.specs.Catalogue.{forms_store, load_rows, load_call}

-- ---- the file

-- a fresh store has no words from 94 on: without a label its file is the trailer alone
pub fresh_file : file_of [] (94 ∷ fresh_words) ≡ replicate 16 0
unfolding file_of spelled bytes_of fresh_words
fresh_file = refl

-- the Int 3..3 behind the fresh words, under the label "ab"
abbrev one_int : List ℕ
one_int = 97 ∷ 98 ∷ 5 ∷ 1 ∷ 0 ∷ 0 ∷ 0 ∷ 0 ∷ 0 ∷ 0 ∷ 3 ∷ 0 ∷ 0 ∷ 0 ∷ 0 ∷ 0 ∷ 0 ∷ 0 ∷ 3 ∷ 0 ∷ 0 ∷ 0 ∷ 0 ∷ 0 ∷ 0 ∷ 0 ∷ 2 ∷ 0 ∷ 0 ∷ 0 ∷ 0 ∷ 0 ∷ 0 ∷ 0 ∷ 3 ∷ 0 ∷ 0 ∷ 0 ∷ 0 ∷ 0 ∷ 0 ∷ 0 ∷ []

pub int_file : file_of (97 ∷ 98 ∷ []) ((97 ∷ fresh_words) ++ (261 ∷ 3 ∷ 3 ∷ [])) ≡ one_int
unfolding file_of spelled bytes_of fresh_words
int_file = refl

-- ---- the trailer: fifteen bytes are none; 2 to the 61 words, and a position of 2 to the 64 less 8, do not fit sixteen bytes, though the sums are 16 modulo 2 to the 64
pub trailers : (trailed (replicate 15 0) ≡ false) × (trailed (replicate 15 0 ++ (32 ∷ [])) ≡ false) × (trailed (248 ∷ (replicate 7 255 ++ (1 ∷ replicate 7 0))) ≡ false) × (trailed (replicate 16 0) ≡ true)
unfolding trailed of_bytes
trailers = (refl, refl, refl, refl)

-- ---- the loader, into lists of sevens

-- it fills a list and zeroes the rest; one word too short is 12
pub int_loaded : (load_call one_int (replicate 101 7) ≡ left (number 2) ((97 ∷ fresh_words) ++ (261 ∷ 3 ∷ 3 ∷ replicate 4 0))) × (load_call one_int (replicate 96 7) ≡ left (refused 12) (replicate 96 7))
unfolding load_call load_rows forms_store trailed of_bytes packed behind_fresh own each_own first_of well_formed ok_entries all_zero fresh_words eqs fills rows entries size_of words_after ok_rows heads_at nowhere also ok_entry most_of every names_in types_in all deepest float_ok zero_filled values_ok
int_loaded = (refl, refl)

-- a word 0 is the empty name, and is taken; two of them are equal entries, and so is a second Bot behind the fresh one: 15
pub words_refused : (load_call (replicate 16 0 ++ (1 ∷ replicate 7 0)) (replicate 95 7) ≡ left (number 0) ((95 ∷ fresh_words) ++ (0 ∷ [])))
    × (load_call (replicate 24 0 ++ (2 ∷ replicate 7 0)) (replicate 96 7) ≡ left (refused 15) (replicate 96 7))
    × (load_call ((1 ∷ 1 ∷ replicate 14 0) ++ (1 ∷ replicate 7 0)) (replicate 95 7) ≡ left (refused 15) (replicate 95 7))
unfolding load_call load_rows forms_store trailed of_bytes packed behind_fresh own each_own first_of well_formed ok_entries all_zero fresh_words eqs fills rows entries size_of words_after ok_rows heads_at nowhere also ok_entry most_of every names_in types_in all deepest float_ok zero_filled values_ok
words_refused = (refl, refl, refl)
