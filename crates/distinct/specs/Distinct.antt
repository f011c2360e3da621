-- What a reader has to believe: no two entries of a store are equal, as a test. It is the words' `Own` (proofs/Rows.antt, `own_is` and `is_own_is`).
use Rattle.std.specs.Prelude.{◌≡◌, ℕ, ◌≤◌, Bool, true, false, ◌&&◌, List, [], ◌∷◌, length, take, drop, ◌==◌}
use Rattle.words.specs.Words.{fills}
use Rattle.words.specs.Table.{Row, first_of}
use Rattle.std.specs.Prelude.{Option, Some, None}

abbrev pub found_at : Option ℕ → ℕ → Bool
found_at (Some h) a = h == a
found_at None a = false

-- each of these is the first of rs with its words
unfoldable pub each_own : List Row → List Row → Bool
each_own rs [] = true
each_own rs (r ∷ t) = found_at (first_of rs r.words) r.at && each_own rs t

-- no two entries are equal
unfoldable pub own : List Row → Bool
own rs = each_own rs rs

-- what a caller knows of the store: entries fill the used words
pub record Store (ws : List ℕ) (used : ℕ) : Type 0 where
  pub low : 1 ≤ used
  pub high : used ≤ length ws
  pub full : fills 0 (drop 1 (take used ws)) ≡ true

-- the most words that a set of bits may have
abbrev pub most_bits : ℕ
most_bits = 16384
