-- What is_final answers, and the set of types that are known to be final. Not needed to believe what is_final is (Final.antt). `u` is the used words.
use Rattle.std.specs.Prelude.{◌≡◌, Bool, true, ◌⊎◌, List, ℕ, ◌<◌}
use Rattle.bitset.specs.Bitset.{bit_at}
use Rattle.later.specs.Later.{Later}
use Rattle.finals.specs.Final.{is_final_within}

-- every type in the set is final, in u and in all used words that come later
pub record Knows (u bits : List ℕ) : Type 0 where
  pub final : (h : ℕ) → bit_at bits h ≡ true → (v : List ℕ) → Later u v → (n : ℕ) → h < n → is_final_within n v h ≡ true

-- nothing came into the set but a, and that only if the answer for it was yes
pub record Kept (bits : List ℕ) (a : ℕ) (r : Bool) (bits' : List ℕ) : Type 0 where
  pub all : (h : ℕ) → bit_at bits' h ≡ true → (bit_at bits h ≡ true) ⊎ ((h ≡ a) × (r ≡ true))

-- what the walk answers: at every n above the handle, what the definition gives
pub record Finals (u : List ℕ) (a : ℕ) (r : Bool) : Type 0 where
  pub is : (n : ℕ) → a < n → r ≡ is_final_within n u a
