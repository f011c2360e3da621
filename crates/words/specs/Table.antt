-- The store as a table: a row for each entry, with its handle and its words. And what is looked up there.
use Rattle.std.specs.Prelude.{Bool, false, cond, ◌||◌, ◌≡◌, ℕ, zero, suc, pred, take, drop, eqb}
use mathlib.Core.List.{List, [], ◌∷◌, Memᴰ}
use Rattle.words.specs.Words.{size_of, eqs}
use Rattle.std.specs.Prelude.{Option, Some, None}

-- "A handle is the position of an entry's first word."
pub record Row : Type 0 where
  pub at : ℕ
  pub words : List ℕ

-- The rows of a list of words whose first word has the position `at`. k words are passed over first, the rest of an entry that began before the list; then each head says how many words follow it.
-- For example (proofs/Examples.antt): at position 94 the words 261, 3, 4, 257 are two rows, the Int 3..4 at 94 with the words 261, 3, 4, and a Bot at 97 with the word 257:
--   rows 94 0 (261 ∷ 3 ∷ 4 ∷ 257 ∷ []) = row at 94 and rows 95 2 (3 ∷ 4 ∷ 257 ∷ []) = .. and rows 97 0 (257 ∷ []) = .. and a row at 97.
unfoldable pub rows : ℕ → ℕ → List ℕ → List Row
rows at zero [] = []
rows at (suc k) [] = []
rows at zero (w ∷ ws) = record { at = at; words = take (size_of w) (w ∷ ws) } ∷ rows (suc at) (pred (size_of w)) ws
rows at (suc k) (w ∷ ws) = rows (suc at) k ws

-- "Entries follow from word 1": the entries of the used words u
unfoldable pub entries : List ℕ → List Row
entries u = rows 1 0 (drop 1 u)

-- the handle of the first row with these words
unfoldable pub first_of : List Row → List ℕ → Option ℕ
first_of [] e = None
first_of (r ∷ rs) e = cond (eqs r.words e) (Some r.at) (first_of rs e)

-- "the lowest handle of an equal entry"
unfoldable pub find_in : List ℕ → List ℕ → Option ℕ
find_in u e = first_of (entries u) e

-- h is the handle of a row
unfoldable pub is_at : List Row → ℕ → Bool
is_at [] h = false
is_at (r ∷ rs) h = eqb r.at h || is_at rs h

-- h starts an entry
abbrev pub starts : List ℕ → ℕ → Bool
starts u = is_at (entries u)

-- r is a row of the table
abbrev pub RowIn : Row → List Row → Type 0
RowIn = Memᴰ

-- no two entries are equal: each is the first with its words
abbrev pub Own : List Row → Type 0
Own rs = (r : Row) → RowIn r rs → first_of rs r.words ≡ Some r.at
