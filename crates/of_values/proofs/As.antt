-- A call that is known to be one of the values. Assumes nothing.
use mathlib.Core.Path.{◌≡◌}
use mathlib.Core.List.{List}
use Prim.Native.Nat.{ℕ}
use Rattle.call.specs.Call.{Reply}
use Rattle.of_values.specs.declared.OfInt.{OfInt}
use Rattle.of_values.specs.declared.OfFloat.{OfFloat}
use Rattle.of_values.specs.Tells.{of_int_told, of_float_told}

module _ (t : ℕ) (u : List ℕ) {x : Reply} where
  pub as_int : {m n : OfInt} → m ≡ n → x ≡ of_int_told n t u → x ≡ of_int_told m t u
  as_int is q = rw is q

  pub as_float : {m n : OfFloat} → m ≡ n → x ≡ of_float_told n t u → x ≡ of_float_told m t u
  as_float is q = rw is q
