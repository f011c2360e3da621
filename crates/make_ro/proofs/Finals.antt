-- As many finals as there are fields, each of them 1. Assumes nothing.
use mathlib.Core.Path.{◌≡◌, refl, sym, ap}
use mathlib.Core.Bool.{true}
use mathlib.Core.List.{List, ◌∷◌}
use Prim.Native.Nat.{ℕ, zero, suc, ◌≤◌}
use native.Mathlib.Omega.{arith}
use lib.ListN.{length, take, replicate, length-replicate}
use Rattle.words.specs.Ran.{Ran}
use Rattle.std.specs.Prelude.{Option}
use Rattle.words.specs.declared.Interned.{Interned}
use Rattle.wellformed.specs.Entry.{all, is_flag}
use Rattle.structs.specs.Remade.{remake}

pub ones_flags : (n : ℕ) → all is_flag (replicate n 1) ≡ true
unfolding all
ones_flags zero = refl
ones_flags (suc n) = ones_flags n

first_same : (n m x : ℕ) → n ≤ m → take n (replicate m x) ≡ replicate n x
first_same zero m x h = refl
first_same (suc n) zero x h = absurd (omega arith)
first_same (suc n) (suc m) x h = ap (λ (l : List ℕ). x ∷ l) (first_same n m x (omega arith))

-- the finals of some types, lent as the front of at least as many ones
module _ (types finals : List ℕ) (m : ℕ) (few : length types ≤ m) (is : finals ≡ replicate m 1) where
  front : take (length types) finals ≡ replicate (length types) 1
  front = rw is (first_same (length types) m 1 few)

  pub ones_many : length types ≡ length (take (length types) finals)
  ones_many = rw front (sym (length-replicate (length types) 1))

  pub ones_fit : all is_flag (take (length types) finals) ≡ true
  ones_fit = rw front (ones_flags (length types))

  pub made_final : (a : ℕ) (u : List ℕ) (kept : ℕ) (ws ws' : List ℕ) (r : Option Interned) → Ran kept (remake a types (take (length types) finals) u) ws ws' r → Ran kept (remake a types (replicate (length types) 1) u) ws ws' r
  made_final a u kept ws ws' r ran = rw front at ran
