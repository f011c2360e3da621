-- What an Int's words say: "min, max (two's complement)".
use Rattle.std.specs.Prelude.{ℕ, Bool, cond, ℤ}
use Rattle.std.specs.Int.Signed.{lt_z}
use Rattle.std.specs.Int.{w64}
use Rattle.std.proofs.Common.{to_z}

-- the number that a word stands for
abbrev pub signed : ℕ → ℤ
signed w = to_z w64 w

-- whether the first word's number is below the second's
abbrev pub less : ℕ → ℕ → Bool
less a b = lt_z (signed a) (signed b)

-- the word of the smaller number ("Ints: smaller min, larger max")
abbrev pub smaller : ℕ → ℕ → ℕ
smaller a b = cond (less b a) b a

-- the word of the larger number
abbrev pub larger : ℕ → ℕ → ℕ
larger a b = cond (less a b) b a
