-- The definitions, computed on document 01's own examples of the rows that a maker can give, and on an accepted call. Assumes nothing.
use mathlib.Core.Path.{◌≡◌, refl}
use mathlib.Core.List.{List, [], ◌∷◌, ◌++◌}
use Prim.Native.Nat.{ℕ}
use lib.ListN.{replicate}
use native.Mathlib.Omega.{arith}
use Rattle.words.specs.Words.{words_after, size_of, eqs}
use Rattle.words.specs.Table.{rows, entries, first_of, find_in, is_at}
use Rattle.words.specs.Made.{make}
use Rattle.wellformed.specs.Fresh.{fresh_words}
use Rattle.wellformed.specs.Entry.{all, deepest, float_ok}
use Rattle.wellformed.specs.Form.{well_formed}
use Rattle.names.specs.Name.{wrapped}
use Rattle.call.specs.Call.{left, handle, number, refused, call, ask}
use Rattle.call.specs.Handles.{types_rows}
use Rattle.makers.specs.Entries.{int_entry}
use Rattle.kept.proofs.Fresh.{fresh_any}
use Rattle.makers.specs.Makers.{fresh_store, make_int_call, make_float_call, get_str_call, get_tuple_call, tuple_rows, get_mem_ptr_call, part_rows, make_ary_call, ary_rows, kind_call}

abbrev fresh94 : List ℕ
fresh94 = fresh_store 94

abbrev none : List ℕ
none = replicate 93 0

-- row 1: "93 words"
pub row_1 : make_int_call 0 0 none ≡ left (refused 1) none
unfolding call well_formed
row_1 = refl

-- row 2, "handle starts no entry": "2"
pub row_2 : get_tuple_call (2 ∷ []) fresh94 ≡ left (refused 2) fresh94
unfolding call tuple_rows is_at all fresh_words rows entries size_of words_after
row_2 = rw (fresh_any 94 (omega arith) (omega arith))

-- row 3, "entry of a kind the call does not take": a pointer to Bot
pub row_3 : get_mem_ptr_call 5 0 fresh94 ≡ left (refused 3) fresh94
unfolding call part_rows is_at all fresh_words rows entries size_of words_after
row_3 = rw (fresh_any 94 (omega arith) (omega arith))

-- row 4: "size 16"
pub row_4 : make_float_call 16 0 fresh94 ≡ left (refused 4) fresh94
unfolding call float_ok fresh_words
row_4 = rw (fresh_any 94 (omega arith) (omega arith))

-- row 5: "256-byte name"
pub row_5 : get_str_call (replicate 256 97) fresh94 ≡ left (refused 5) fresh94
unfolding call fresh_words
row_5 = rw (fresh_any 94 (omega arith) (omega arith))

-- row 10, "array body a pointer without nil": "body 91"
pub row_10 : make_ary_call 9 0 91 0 [] fresh94 ≡ left (refused 10) fresh94
unfolding call ary_rows wrapped is_at all deepest fresh_words rows entries size_of words_after
row_10 = rw (fresh_any 94 (omega arith) (omega arith))

-- row 12: "any new Int, 94 words"
pub row_12 : make_int_call 3 4 fresh94 ≡ left (refused 12) fresh94
unfolding call make find_in first_of fresh_words eqs rows entries size_of words_after
row_12 = rw (fresh_any 94 (omega arith) (omega arith))

-- the same Int in a list that has room for it, behind the fresh words
pub made_94 : make_int_call 3 4 (fresh_store 98) ≡ left (handle 94) ((97 ∷ fresh_words) ++ (int_entry 3 4 ++ (0 ∷ [])))
unfolding call make find_in first_of fresh_words eqs rows entries size_of words_after
made_94 = rw (fresh_any 98 (omega arith) (omega arith))

-- an Int that is there, in a list without room
pub found_9 : make_int_call 0 0 fresh94 ≡ left (handle 9) fresh94
unfolding call make find_in first_of fresh_words eqs rows entries size_of words_after
found_9 = rw (fresh_any 94 (omega arith) (omega arith))

-- the kind of the pointer 88
pub kind_88 : kind_call 88 fresh94 ≡ left (number 10) fresh94
unfolding ask types_rows is_at all fresh_words rows entries size_of words_after
kind_88 = rw (fresh_any 94 (omega arith) (omega arith))
