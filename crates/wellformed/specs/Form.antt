-- Document 01, "The store": when a list of words is well formed (row 1).
use Rattle.std.specs.Prelude.{Bool, true, cond, ◌&&◌, List, [], ◌∷◌, ◌++◌, ℕ, ◌+◌, ◌-◌, length, take, drop, eqb, leb}
use Rattle.words.specs.Words.{fills, eqs}
use Rattle.words.specs.Columns.{word}
use Rattle.words.specs.Table.{Row, entries}
use Rattle.bitset.specs.Bitset.{nowhere, also}
use Rattle.wellformed.specs.Fresh.{fresh_length, fresh_words}
use Rattle.wellformed.specs.Entry.{no_head, ok_entry}

-- "Word 0 is the number of words used."
abbrev pub used_count : List ℕ → ℕ
used_count ws = word ws 0

abbrev pub used_words : List ℕ → List ℕ
used_words ws = take (used_count ws) ws

unfoldable pub all_zero : List ℕ → Bool
all_zero [] = true
all_zero (w ∷ ws) = eqb w 0 && all_zero ws

-- the head at a handle that starts an earlier entry, of which `start` is the test; else 255, which is no kind. For example (proofs/Examples.antt), where the entries before start at 1 and 3: the head
-- at 3 is word 3, and at 2, or at a later entry's handle, it is 255, whatever word stands there.
unfoldable pub heads_at : (ℕ → Bool) → List ℕ → ℕ → ℕ
heads_at start ws h = cond (start h) (word ws h) no_head

-- each entry is right, with its parts among those before it: `start` is the test for the handles before, to which each entry adds its own
unfoldable pub ok_rows : List ℕ → (ℕ → Bool) → List Row → Bool
ok_rows ws start [] = true
ok_rows ws start (r ∷ rs) = ok_entry (heads_at start ws) r.words && ok_rows ws (also r.at start) rs

-- "entries fill the used words", and each is right
unfoldable pub ok_entries : List ℕ → ℕ → Bool
ok_entries ws used = fills 0 (drop 1 (take used ws)) && ok_rows ws nowhere (entries (take used ws))

-- "A lent list of 64-bit words, 94 to 1,048,576 of them."
abbrev pub longest_allowed : ℕ
longest_allowed = 1048576

abbrev pub right_length : List ℕ → Bool
right_length ws = leb fresh_length (length ws) && leb (length ws) longest_allowed

-- the words 1 to 93
abbrev pub first_entries : List ℕ → List ℕ
first_entries ws = take (fresh_length - 1) (drop 1 ws)

unfoldable pub well_formed : List ℕ → Bool
well_formed ws =
    right_length ws
    -- "words 1 to 93 are the fresh ones"
    && eqs (first_entries ws) fresh_words
    -- "word 0 is from 94 to the list's length"
    && leb fresh_length (used_count ws) && leb (used_count ws) (length ws)
    -- "all words past them are 0"
    && all_zero (drop (used_count ws) ws)
    -- "entries fill the used words", and what else is said of each
    && ok_entries ws (used_count ws)

-- document 02, Slip 3: the store whose words behind the fresh ones are ks, in a list of just its length
unfoldable pub behind_fresh : List ℕ → List ℕ
behind_fresh ks = (fresh_length + length ks) ∷ (fresh_words ++ ks)
