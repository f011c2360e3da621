-- What the functions that write a struct require of the lent fields. Not needed to believe a maker's definition.
use Rattle.std.specs.Prelude.{◌≡◌, true, List, ℕ}
use Rattle.wellformed.specs.Entry.{all, is_flag, is_alias}
use Rattle.makers.specs.Entries.{field_aliases, field_finals}

-- the aliases and flags are ones that the maker takes
pub record ValuesFit (fs : List ℕ) : Type 0 where
  pub aliases : all is_alias (field_aliases fs) ≡ true
  pub finals : all is_flag (field_finals fs) ≡ true
