-- The index of a store. Its list has two halves of n words: a word for each bucket, the newest handle in it (0: none); and a word for each
-- handle, 0 where no entry starts there, else 1 + the next older handle of the same bucket (0: none). Every word of it is determined by
-- the entries, so nothing is said of chains. The word of handle 0, where no entry starts, is free.
use Rattle.std.specs.Prelude.{◌≡◌, cond, List, [], ◌∷◌, ℕ, ◌+◌, ◌/◌, ◌≤◌, ◌<◌, length, get_or, set, eqb}
use Rattle.words.specs.Table.{Row, entries}
use Rattle.index.specs.Digest.{bucket_of}

-- rows from the newest to the oldest, before those of `past`
unfoldable pub newest_first : List Row → List Row → List Row
newest_first past [] = past
newest_first past (r ∷ rs) = newest_first (r ∷ past) rs

-- of rows from the newest on: the newest handle in bucket b
unfoldable pub newest : ℕ → ℕ → List Row → ℕ
newest n b [] = 0
newest n b (r ∷ rs) = cond (eqb (bucket_of n r.words) b) r.at (newest n b rs)

-- and the word of handle h
unfoldable pub link : ℕ → ℕ → List Row → ℕ
link n h [] = 0
link n h (r ∷ rs) = cond (eqb r.at h) (1 + newest n (bucket_of n r.words) rs) (link n h rs)

pub record Holds (rs : List Row) (n : ℕ) (index : List ℕ) : Type 0 where
  pub buckets : (b : ℕ) → b < n → get_or index b 0 ≡ newest n b rs
  pub links : (h : ℕ) → 0 < h → h < n → get_or index (n + h) 0 ≡ link n h rs

-- `index` is the index of the used words u
pub record Indexed (u index : List ℕ) : Type 0 where
  pub room : length u ≤ length index / 2
  pub holds : Holds (newest_first [] (entries u)) (length index / 2) index

-- the index with one entry more, the newest
unfoldable pub added : List ℕ → ℕ → List ℕ → List ℕ
added index at e = set (set index (length index / 2 + at) (get_or index (bucket_of (length index / 2) e) 0 + 1)) (bucket_of (length index / 2) e) at
