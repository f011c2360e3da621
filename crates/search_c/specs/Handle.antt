-- What is told of a search as one word, for a caller in C or Rust.
use Rattle.std.specs.Prelude.{◌≡◌, Bool, true, List, ℕ, take, get_or}
use Rattle.words.specs.Table.{Row, first_of}
use Rattle.words.specs.Search.{not_passed_over}
use Rattle.words.specs.Made.{Grown}
use Rattle.words.specs.Ran.{Ran}
use Rattle.std.specs.Prelude.{Option, Some, None}
use Rattle.words.specs.declared.Interned.{Interned}
use Rattle.index.specs.Covers.{Opened}
use Rattle.wellformed.specs.Form.{well_formed}

-- a handle is itself, and nothing, or no room, is 0
abbrev pub of_found : Option ℕ → ℕ
of_found (Some h) = h
of_found None = 0

abbrev pub of_interned : Option Interned → ℕ
of_interned (Some m) = m.handle
of_interned None = 0

-- r says whether the words are a store; if they are, the index is theirs
pub record Ready (ws index : List ℕ) (r : Bool) : Type 0 where
  pub is : r ≡ well_formed ws
  pub opened : r ≡ true → Opened (take (get_or ws 0 0) ws) index

-- r is what is told of the operation g on the words ws, and ws' what is left of them
pub record Left (used : ℕ) (g : Grown) (ws ws' : List ℕ) (r : ℕ) : Type 0 where
  pub answer : Option Interned
  pub ran : Ran used g ws ws' answer
  pub told : r ≡ of_interned answer

-- r and count are what is told of the search for e among these rows: the handle, and how many of them were not passed over
pub record Told (rs : List Row) (e : List ℕ) (r count : ℕ) : Type 0 where
  pub handle : r ≡ of_found (first_of rs e)
  pub number : count ≡ not_passed_over rs e
