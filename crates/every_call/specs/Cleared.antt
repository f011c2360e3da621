-- What is known once no row of a call applies.
use Rattle.std.specs.Prelude.{◌≡◌, true, List, ◌++◌, ℕ, ◌+◌, ◌≤◌, length, take, drop}
use Rattle.words.specs.Words.{fills}
use Rattle.parts.specs.Parts.{Good}
use Rattle.wellformed.specs.Form.{longest_allowed}

-- a store in two segments, of which `used` words are used, that row 1 has passed, and on which no row turns the call back
pub record Cleared (rows : List ℕ → ℕ) (old new : List ℕ) (used : ℕ) : Type 0 where
  pub over : length old ≤ used
  pub within : used ≤ length old + length new
  pub small : length old + length new ≤ longest_allowed
  pub cut : fills 0 (drop 1 old) ≡ true
  pub good : Good (take used (old ++ new))
  pub passed : rows (take used (old ++ new)) ≡ 0
