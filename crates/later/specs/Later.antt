-- Used words that came after others, by calls or within one: every entry stands where it stood, with the words that it had, and more stand behind.
-- Word 0, which counts, may differ. What a call keeps (call/specs/Keep.antt, `Keeps`) says this of two stores, and what an operation adds
-- (`Adds`) of two lists of used words.
use Rattle.std.specs.Prelude.{◌≡◌, List, ◌++◌, ℕ, ◌≤◌, ◌<◌, length}
use Rattle.words.specs.Table.{Row, entries}
use Rattle.words.specs.Columns.{word}

pub record Later (u v : List ℕ) : Type 0 where
  pub long : length u ≤ length v
  pub words : (i : ℕ) → 1 ≤ i → i < length u → word v i ≡ word u i
  pub extra : List Row
  pub rows : entries v ≡ entries u ++ extra
