-- A loop that looks for a word that is not 0. Assumes nothing.
use mathlib.Core.Path.{◌≡◌, sym, ◌∙◌}
use mathlib.Core.Bool.{true, false}
use mathlib.Core.List.{List}
use Prim.Native.Nat.{ℕ, ◌+◌, ◌≤◌, ◌<◌}
use native.Mathlib.Numerals.{add-one}
use borrow.Author.Tests.{eq-eqb, ne_eqb}
use lib.ListN.{length, drop, get_or, drop_of_length-le}
use lib.Seq.{drop-cons}
use Rattle.wellformed.specs.Form.{all_zero}

module _ (a : List ℕ) (i : ℕ) (left : all_zero a ≡ all_zero (drop i a)) where
  pub not_zero : i < length a → (get_or a i 0 ≡ 0 → ⊥) → false ≡ all_zero a
  unfolding all_zero
  not_zero h ne = sym (left ∙ rw (drop-cons a i 0 h, ne_eqb _ _ ne))

  pub a_zero : i < length a → get_or a i 0 ≡ 0 → all_zero a ≡ all_zero (drop (i + 1) a)
  unfolding all_zero
  a_zero h e = left ∙ rw (drop-cons a i 0 h, eq-eqb _ _ e, add-one)

  pub no_more : length a ≤ i → true ≡ all_zero a
  unfolding all_zero
  no_more h = sym (left ∙ rw (drop_of_length-le a h))
