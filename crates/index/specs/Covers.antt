-- An index of the first words of a store, which stays as it is while entries are appended behind them.
use Rattle.std.specs.Prelude.{◌≡◌, true, cond, List, ℕ, ◌/◌, ◌≤◌, length, take, drop, get_or, eqb}
use Rattle.words.specs.Words.{fills}
use Rattle.index.specs.Chains.{Indexed}

-- how many words are in the index: the word of handle 0 has it. An index without words has no entry in it.
unfoldable pub indexed_to : List ℕ → ℕ
indexed_to index = cond (eqb (length index / 2) 0) 1 (get_or index (length index / 2) 0)

-- the index has the first of the used words u
pub record Covers (u index : List ℕ) : Type 0 where
  pub low : 1 ≤ indexed_to index
  pub high : indexed_to index ≤ length u
  pub cut : fills 0 (drop 1 (take (indexed_to index) u)) ≡ true
  pub indexed : (length index / 2 ≡ 0 → ⊥) → Indexed (take (indexed_to index) u) index

-- an index of no entry, which is one of any used words
pub record Blank (index : List ℕ) : Type 0 where
  pub none : indexed_to index ≡ 1
  pub covers : (u : List ℕ) → 1 ≤ length u → Covers u index

-- it has all of them, where they fit
pub record Opened (u index : List ℕ) : Type 0 where
  pub covers : Covers u index
  pub all : length u ≤ length index / 2 → indexed_to index ≡ length u
