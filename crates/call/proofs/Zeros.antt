-- A list that is all zeros. Assumes nothing.
use mathlib.Core.Path.{◌≡◌, refl}
use mathlib.Core.Bool.{Bool, true, false, ◌&&◌}
use mathlib.Core.List.{List, [], ◌∷◌}
use Prim.Native.Nat.{ℕ}
use native.Mathlib.Omega.{arith}
use borrow.Author.Tests.{eqb-true}
use lib.Dec.{eqb}
use lib.ListN.{length, replicate}
use Rattle.wellformed.specs.Form.{all_zero}

pub all_zero_is : (l : List ℕ) → all_zero l ≡ true → l ≡ replicate (length l) 0
unfolding all_zero
all_zero_is [] e = refl
all_zero_is (x ∷ l) e = go (eqb x 0) refl e (all_zero_is l)
  where
    go : (t : Bool) → eqb x 0 ≡ t → (t && all_zero l) ≡ true → (all_zero l ≡ true → l ≡ replicate (length l) 0) → (x ∷ l) ≡ (0 ∷ replicate (length l) 0)
    go true q f ih = cc (eqb-true x 0 q, ih f)
    go false q f ih = let z : ◌≡◌ {A = ℕ} 0 1 = cc in absurd (omega arith)
