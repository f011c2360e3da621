-- What holds of a column: of its first rule where that fits, and of the rules below where it does not. Assumes nothing.
use mathlib.Core.Path.{◌≡◌, refl}
use mathlib.Core.Bool.{Bool, true, false}
use Rattle.rules.specs.Column.{◌⇒◌∣◌}

module _ {A : Type 0} (P : A → Type 0) where
  pub rule : (t : Bool) {x rest : A} → (t ≡ true → P x) → (t ≡ false → P rest) → P (t ⇒ x ∣ rest)
  rule true fits below = fits refl
  rule false fits below = below refl
