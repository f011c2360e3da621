-- What every call on a store keeps of it (`Keeps`). `fresh` is no such call: it writes the list anew. `u` is the used words.
use Rattle.std.specs.Prelude.{◌≡◌, true, List, ◌++◌, ℕ, ◌^◌, ◌≤◌, ◌<◌}
use Rattle.words.specs.Kinds.{Int}
use Rattle.words.specs.Columns.{word, min_on, max_on}
use Rattle.words.specs.Table.{Row, entries, RowIn, Own}
use Rattle.wellformed.specs.Entry.{kind}
use Rattle.wellformed.specs.Form.{well_formed, used_count, used_words}
use Rattle.call.specs.Call.{Outcome}

-- "A lent list of 64-bit words": the ends of an Int are 64-bit words. `e` is the words of an entry.
abbrev pub EndsOf : List ℕ → Type 0
EndsOf e = kind e ≡ Int → (min_on e 0 < 2 ^ 64) × (max_on e 0 < 2 ^ 64)

-- those of every Int of a table
abbrev pub Ends : List Row → Type 0
Ends rs = (r : Row) → RowIn r rs → EndsOf r.words

-- a call leaves a store; it keeps the words of every entry, that no two entries are equal, and that the ends of Ints are 64-bit words
pub record Keeps (ws : List ℕ) (o : Outcome) : Type 0 where
  pub well : well_formed o.words ≡ true
  pub words : (i : ℕ) → 1 ≤ i → i < used_count ws → word o.words i ≡ word ws i
  pub extra : List Row
  pub rows : entries (used_words o.words) ≡ entries (used_words ws) ++ extra
  pub own : Own (entries (used_words ws)) → Own (entries (used_words o.words))
  pub ends : Ends (entries (used_words ws)) → Ends (entries (used_words o.words))
