-- A call that is known to be one of the values. Assumes nothing.
use mathlib.Core.Path.{◌≡◌}
use mathlib.Core.List.{List}
use Prim.Native.Nat.{ℕ}
use Rattle.call.specs.Call.{Reply}
use Rattle.of_types.specs.declared.OfType.{OfType}
use Rattle.of_types.specs.Tells.{of_type_rows, of_type_told}

module _ {m n : OfType} (is : m ≡ n) (t : ℕ) (u : List ℕ) where
  pub as_rows : {x : ℕ} → x ≡ of_type_rows n t u → x ≡ of_type_rows m t u
  as_rows q = rw is q

  pub as_told : {x : Reply} → x ≡ of_type_told n t u → x ≡ of_type_told m t u
  as_told q = rw is q
