-- What `extend` and `mark_new` require of the index.
use Rattle.std.specs.Prelude.{◌≡◌, true, List, ℕ, ◌≤◌, length, take, drop}
use Rattle.words.specs.Words.{fills}
use Rattle.words.specs.Table.{starts}
use Rattle.bitset.specs.Bitset.{bit_at}
use Rattle.wellformed.specs.Form.{used_count, used_words}
use Rattle.index.specs.Covers.{indexed_to, Covers, Opened}
use Rattle.store_index.specs.StoreIndex.{index_size, marks_of, chains_of}

-- an index of the first words of a store, before the entries of the last call are taken into it
pub record Stale (ws index : List ℕ) : Type 0 where
  pub room : index_size (length ws) ≤ length index
  pub covers : Covers (used_words ws) (chains_of ws index)
  pub marks : bit_at (marks_of ws index) ≡ starts (take (indexed_to (chains_of ws index)) ws)

-- an index of a store, whose entries from `from` on are in the chains, and not marked yet
pub record Unmarked (ws : List ℕ) (from : ℕ) (index : List ℕ) : Type 0 where
  pub room : index_size (length ws) ≤ length index
  pub low : 1 ≤ from
  pub high : from ≤ used_count ws
  pub cut : fills 0 (drop 1 (take from ws)) ≡ true
  pub marks : bit_at (marks_of ws index) ≡ starts (take from ws)
  pub chains : Opened (used_words ws) (chains_of ws index)
