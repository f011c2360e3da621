-- Document 01, "meet, isa": the struct that two structs meet in, once the types of their fields have met. `u` is the used words.
use Rattle.std.specs.Prelude.{List, [], ◌∷◌, ℕ, max, length}
use Rattle.words.specs.Made.{Grown}
use Rattle.words.specs.Columns.{first_flags_on, final_in}
use Rattle.structs.specs.Remade.{remake}

-- "finals are or-ed": of the flags of two structs
unfoldable pub either_final : List ℕ → List ℕ → List ℕ
either_final [] ys = []
-- not come to: both have as many
either_final (x ∷ xs) [] = []
either_final (x ∷ xs) (y ∷ ys) = max (final_in x) (final_in y) ∷ either_final xs ys

-- "a met struct keeps the first operand's name handles"; the aliases are the same in both. There is a type for each field of either.
unfoldable pub meet_fields : ℕ → ℕ → List ℕ → List ℕ → Grown
meet_fields a b types u = remake a types (either_final (first_flags_on u (length types) a) (first_flags_on u (length types) b)) u
