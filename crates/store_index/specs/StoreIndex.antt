-- The index of an opened store: first a bit for each word of the list, which marks where entries start, then the chains (index/specs/Chains.antt).
use Rattle.std.specs.Prelude.{◌≡◌, List, ℕ, ◌+◌, ◌*◌, ◌/◌, ◌≤◌, length, take, drop}
use Rattle.words.specs.Table.{starts}
use Rattle.bitset.specs.Bitset.{word_bits, bit_at}
use Rattle.wellformed.specs.Form.{used_words}
use Rattle.index.specs.Covers.{Opened}

-- how many words the bits take, for a list of n words
abbrev pub marks_size : ℕ → ℕ
marks_size n = n / word_bits + 1

-- how many words the index has to have
abbrev pub index_size : ℕ → ℕ
index_size n = marks_size n + 2 * n

abbrev pub marks_of : List ℕ → List ℕ → List ℕ
marks_of ws index = take (marks_size (length ws)) index

abbrev pub chains_of : List ℕ → List ℕ → List ℕ
chains_of ws index = drop (marks_size (length ws)) index

-- the index of a store: all its entries are marked and in the chains
pub record IndexOf (ws index : List ℕ) : Type 0 where
  pub room : index_size (length ws) ≤ length index
  pub marks : bit_at (marks_of ws index) ≡ starts (used_words ws)
  pub chains : Opened (used_words ws) (chains_of ws index)
