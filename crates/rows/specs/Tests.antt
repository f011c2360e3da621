-- Tests that the functions of this crate answer.
use Rattle.std.specs.Prelude.{Bool, not, ◌||◌, ℕ, leb}

abbrev pub at_most : ℕ → ℕ → Bool
at_most most v = leb v most

-- one of three does not hold
unfoldable pub any_not : Bool → Bool → Bool → Bool
any_not a b c = not a || not b || not c
