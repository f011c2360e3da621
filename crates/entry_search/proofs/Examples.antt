-- The search on a fresh store of 94 words, computed: document 01's entries, and what document 02's Slip 2 says of them. Assumes nothing.
use mathlib.Core.Path.{◌≡◌, refl}
use mathlib.Core.List.{List, [], ◌∷◌}
use Prim.Native.Nat.{ℕ}
use Rattle.words.specs.Words.{words_after, size_of, eqs}
use Rattle.words.specs.Table.{rows, entries, first_of, find_in}
use Rattle.words.specs.Search.{headed, not_passed_over}
use Rattle.wellformed.specs.Fresh.{fresh_words}
use Rattle.entry_search.specs.EntrySearch.{shown}
use Rattle.entry_search.specs.declared.EntrySearch.{EntrySearch}
use Rattle.std.proofs.Common.{Some, None}

abbrev found_at : ℕ → ℕ → EntrySearch
found_at h n = record { found = Some h; count = n }

abbrev nowhere : ℕ → EntrySearch
nowhere n = record { found = None; count = n }

-- behind row 1, on the used words
abbrev in_fresh : List ℕ → EntrySearch
in_fresh e = shown (find_in (94 ∷ fresh_words) e) (not_passed_over (entries (94 ∷ fresh_words)) e)

-- the Int 0..0 is the first of twelve Ints, 2..2 the sixth, and 3..3 is not there
pub ints : (in_fresh (261 ∷ 0 ∷ 0 ∷ []) ≡ found_at 9 1) × (in_fresh (261 ∷ 2 ∷ 2 ∷ []) ≡ found_at 28 6) × (in_fresh (261 ∷ 3 ∷ 3 ∷ []) ≡ nowhere 12)
unfolding find_in entries rows first_of eqs headed not_passed_over fresh_words size_of words_after
ints = (refl, refl, refl)

-- the structs $TOP and $BOT; the fourth tuple; the name "$BOT"; null; and no entry has the head of the empty name
pub others : (in_fresh (264 ∷ 1 ∷ []) ≡ found_at 18 1) × (in_fresh (264 ∷ 3 ∷ []) ≡ found_at 20 2) × (in_fresh (131591 ∷ 8 ∷ 7 ∷ []) ≡ found_at 73 4)
    × (in_fresh (262144 ∷ 1414480420 ∷ []) ≡ found_at 3 2) × (in_fresh (522 ∷ 18 ∷ 1 ∷ []) ≡ found_at 88 3) × (in_fresh (0 ∷ []) ≡ nowhere 0)
unfolding find_in entries rows first_of eqs headed not_passed_over fresh_words size_of words_after
others = (refl, refl, refl, refl, refl, refl)
