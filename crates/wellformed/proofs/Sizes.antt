-- Which words of an entry there are. Assumes nothing.
use mathlib.Core.Path.{◌≡◌, ◌∙◌}
use mathlib.Core.List.{List}
use lib.ListN.{length, get_or}
use Prim.Native.Nat.{ℕ, ◌+◌, ◌*◌, ◌≤◌, ◌<◌, ◌%◌, ◌/◌}
use native.Mathlib.Omega.{arith}
use Rattle.words.specs.Words.{size_of}
use Rattle.words.proofs.Walk.{size_pos}
use Rattle.words.proofs.Sizes.{tuple_size, struct_size_is, fref_size, pair_size}

module _ (e : List ℕ) (sized : length e ≡ size_of (get_or e 0 0)) where
  pub head_in : 0 < length e
  head_in = omega (arith, size_pos (get_or e 0 0))

  pub tuple_in : get_or e 0 0 % 256 ≡ 7 → length e ≡ 1 + get_or e 0 0 / 65536
  tuple_in k = sized ∙ tuple_size (get_or e 0 0) k

  pub struct_in : get_or e 0 0 % 256 ≡ 8 → length e ≡ 2 + 3 * (get_or e 0 0 / 65536)
  struct_in k = sized ∙ struct_size_is (get_or e 0 0) k

  pub struct_name : get_or e 0 0 % 256 ≡ 8 → 1 < length e
  struct_name k = omega (arith, struct_in k)

  pub fref_name : get_or e 0 0 % 256 ≡ 9 → 1 < length e
  fref_name k = omega (arith, fref_size (get_or e 0 0) k)

  three : (k : ℕ) → get_or e 0 0 % 256 ≡ k → 5 ≤ k → k ≤ 11 → (k ≡ 7 → ⊥) → (k ≡ 8 → ⊥) → (k ≡ 9 → ⊥) → length e ≡ 3
  three k is l h a b c =
      sized ∙ pair_size (get_or e 0 0) (λ q. omega arith) (λ q. a (omega arith)) (λ q. b (omega arith)) (λ q. c (omega arith)) (omega arith) (omega arith)

  pub int_2 : get_or e 0 0 % 256 ≡ 5 → 2 < length e
  int_2 k = omega (arith, three 5 k (omega arith) (omega arith) (omega arith) (omega arith) (omega arith))

  pub float_1 : get_or e 0 0 % 256 ≡ 6 → 1 < length e
  float_1 k = omega (arith, three 6 k (omega arith) (omega arith) (omega arith) (omega arith) (omega arith))

  pub float_2 : get_or e 0 0 % 256 ≡ 6 → 2 < length e
  float_2 k = omega (arith, three 6 k (omega arith) (omega arith) (omega arith) (omega arith) (omega arith))

  pub pointer_1 : get_or e 0 0 % 256 ≡ 10 → 1 < length e
  pointer_1 k = omega (arith, three 10 k (omega arith) (omega arith) (omega arith) (omega arith) (omega arith))

  pub pointer_2 : get_or e 0 0 % 256 ≡ 10 → 2 < length e
  pointer_2 k = omega (arith, three 10 k (omega arith) (omega arith) (omega arith) (omega arith) (omega arith))

  pub memory_1 : get_or e 0 0 % 256 ≡ 11 → 1 < length e
  memory_1 k = omega (arith, three 11 k (omega arith) (omega arith) (omega arith) (omega arith) (omega arith))

  pub memory_2 : get_or e 0 0 % 256 ≡ 11 → 2 < length e
  memory_2 k = omega (arith, three 11 k (omega arith) (omega arith) (omega arith) (omega arith) (omega arith))
