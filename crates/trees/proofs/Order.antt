-- Orders and least upper bounds, and an order turned over. Assumes nothing.
use mathlib.Core.Path.{◌≡◌}

module _ {A : Type 0} (◌⊑◌ : A → A → Type 0) where
  infix 40 ◌⊑◌
  pub record Order : Type 0 where
    pub rfl : (a : A) → a ⊑ a
    pub trn : {a b c : A} → a ⊑ b → b ⊑ c → a ⊑ c
    pub ant : {a b : A} → a ⊑ b → b ⊑ a → a ≡ b

  pub record Lub (a b c : A) : Type 0 where
    pub left : a ⊑ c
    pub right : b ⊑ c
    pub least : {u : A} → a ⊑ u → b ⊑ u → c ⊑ u

  pub lub_sym : {a b c : A} → Lub a b c → Lub b a c
  lub_sym l = record { left = l.right; right = l.left; least = λ p q. l.least q p }

  module _ (𝓞 : Order) where
    open 𝓞 use {rfl, trn, ant}

    pub lub_of_le : {a b : A} → a ⊑ b → Lub a b b
    lub_of_le {b} p = record { left = p; right = rfl b; least = λ h k. k }

    pub le_of_lub : {a b c : A} → Lub a b c → a ⊑ b → c ≡ b
    le_of_lub {b = b} l p = ant (l.least p (rfl b)) l.right

module _ {A : Type 0} {◌⊑◌ : A → A → Type 0} where
  pub turn : Order ◌⊑◌ → Order (λ a b. ◌⊑◌ b a)
  turn 𝓞 = record { rfl = 𝓞.rfl; trn = λ p q. 𝓞.trn q p; ant = λ p q. 𝓞.ant q p }
