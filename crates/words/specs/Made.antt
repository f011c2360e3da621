-- Making an entry. `u` is the used words, without any limit of room: room comes in with row 12 (call/specs/Call.antt).
use Rattle.std.specs.Prelude.{List, ◌++◌, ℕ, length}
use Rattle.words.specs.Table.{find_in}
use Rattle.std.specs.Prelude.{Option, Some, None}

-- what an operation leaves: the used words, grown or not, and the handle of its answer
pub record Grown : Type 0 where
  pub words : List ℕ
  pub handle : ℕ

-- an answer that is there already
abbrev pub there : List ℕ → ℕ → Grown
there u h = record { words = u; handle = h }

-- an entry that was found at a handle, or was not and is appended
abbrev place : Option ℕ → List ℕ → List ℕ → Grown
place (Some h) u e = there u h
place None u e = record { words = u ++ e; handle = length u }

-- "Making an entry hands back the lowest handle of an equal entry, else appends one."
unfoldable pub make : List ℕ → List ℕ → Grown
make u e = place (find_in u e) u e
