-- Each way through `float_ok` gives what `float_ok` says. Assumes nothing.
use mathlib.Core.Path.{◌≡◌}
use mathlib.Core.Bool.{true, false}
use Prim.Native.Nat.{ℕ, ◌≤◌, ◌<◌, ◌%◌}
use borrow.Author.Tests.{eq-eqb, ne_eqb, le-leb, lt-leb}
use lib.Dec.{eqb}
use Rattle.wellformed.specs.Entry.{float_ok}

module _ (size bits : ℕ) where
  pub constant : size ≡ 64 → true ≡ float_ok size bits
  unfolding float_ok
  constant e = rw (eq-eqb _ _ e)

  module _ (sized : size ≡ 64 → ⊥) where
    pub with_bits : (bits ≡ 0 → ⊥) → false ≡ float_ok size bits
    unfolding float_ok
    with_bits n = rw (ne_eqb _ _ sized, ne_eqb _ _ n)

    pub too_wide : bits ≡ 0 → 128 < size → false ≡ float_ok size bits
    unfolding float_ok
    too_wide e h = rw (ne_eqb _ _ sized, eq-eqb _ _ e, lt-leb _ _ h)

    pub a_size : bits ≡ 0 → size ≤ 128 → eqb (size % 32) 0 ≡ float_ok size bits
    unfolding float_ok
    a_size e h = rw (ne_eqb _ _ sized, eq-eqb _ _ e, le-leb _ _ h)
