-- Document 02, Slip 2: what the search for an equal entry tells beside its answer.
use Rattle.std.specs.Prelude.{◌≡◌, Bool, true, cond, ◌&&◌, List, [], ◌∷◌, ℕ, ◌+◌, eqb, leb}
use Rattle.words.specs.Columns.{word}
use Rattle.words.specs.Table.{Row, first_of}
use Rattle.std.specs.Prelude.{Option, Some, None}

-- "up to the one found": a row does not stand behind it; where none is found, none does
abbrev pub up_to : Option ℕ → Row → Bool
up_to (Some h) r = leb r.at h
up_to None r = true

-- how many of the rows up to the one found have this head
unfoldable pub headed : Option ℕ → ℕ → List Row → ℕ
headed f head [] = 0
headed f head (r ∷ rs) = cond (up_to f r && eqb (word r.words 0) head) 1 0 + headed f head rs

-- "the number of entries not passed over, exactly those of equal head up to the one found, or all of equal head where none is found"
unfoldable pub not_passed_over : List Row → List ℕ → ℕ
not_passed_over rs e = headed (first_of rs e) (word e 0) rs

-- what a search of these rows tells: "Beside its answer the search gives the number"
pub record Searched (rs : List Row) (e : List ℕ) (found : Option ℕ) (count : ℕ) : Type 0 where
  pub answer : found ≡ first_of rs e
  pub number : count ≡ not_passed_over rs e
