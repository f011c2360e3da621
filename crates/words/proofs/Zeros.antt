-- A loop that zeroes a list. Assumes nothing.
use mathlib.Core.Path.{◌≡◌, refl}
use mathlib.Core.List.{List}
use Prim.Native.Nat.{ℕ, zero, suc}
use lib.ListN.{get_or, replicate}

-- a word of a list of zeros
pub zeros : (n i : ℕ) → ◌≡◌ {A = ℕ} (get_or (replicate n 0) i 0) 0
zeros zero i = refl
zeros (suc n) zero = refl
zeros (suc n) (suc i) = zeros n i

pub blank_word : {l : List ℕ} (n : ℕ) → l ≡ replicate n 0 → (i : ℕ) → get_or l i 0 ≡ 0
blank_word {l} n is i = rw is (zeros n i)
