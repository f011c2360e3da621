-- What the functions that compare names require. Not needed to believe which rule decides. `u` is the used words.
use Rattle.std.specs.Prelude.{◌≡◌, true, List, ℕ, ◌≤◌, ◌<◌, ltb}
use Rattle.words.specs.Columns.{count_on, name_on, field_names_on}
use Rattle.wellformed.specs.Entry.{all, most_counted}
use Rattle.wellformed.specs.Form.{longest_allowed}

-- the struct or forward reference at h has no more fields than an entry may have, and its names stand in a store's words
pub record NamesBelow (u : List ℕ) (h : ℕ) : Type 0 where
  pub few : count_on u h ≤ most_counted
  pub own : name_on u h < longest_allowed
  pub fields : all (λ x. ltb x longest_allowed) (field_names_on u h) ≡ true
