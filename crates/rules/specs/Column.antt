-- Document 01, "meet, isa": "The first rule that fits decides". A column of rules, each written test ⇒ answer ∣, with the rules after it
-- below; the last line is the answer where none fits.
use Rattle.std.specs.Prelude.{Bool, true, false}

infixr 10 ◌⇒◌∣◌
abbrev pub ◌⇒◌∣◌ : {A : Type 0} → Bool → A → A → A
true ⇒ a ∣ rest = a
false ⇒ a ∣ rest = rest
