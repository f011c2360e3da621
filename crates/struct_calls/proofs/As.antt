-- A call that is known to be one of the values. Assumes nothing.
use mathlib.Core.Path.{◌≡◌}
use mathlib.Core.List.{List, [], ◌++◌}
use Prim.Native.Nat.{ℕ}
use lib.ListN.{length, drop}
use Rattle.call.specs.Call.{Reply, output_rows}
use Rattle.every_call.specs.Cleared.{Cleared}
use Rattle.struct_calls.specs.declared.Filling.{Filling}
use Rattle.struct_calls.specs.declared.OfStruct.{OfStruct}
use Rattle.struct_calls.specs.Tells.{filling_rows, filled_words, of_struct_rows, of_struct_told}

module _ {m n : OfStruct} (is : m ≡ n) (s : ℕ) where
  pub as_rows : (u : List ℕ) {x : ℕ} → x ≡ of_struct_rows n s u → x ≡ of_struct_rows m s u
  as_rows u q = rw is q

  pub as_told : (u : List ℕ) {x : Reply} → x ≡ of_struct_told n s u → x ≡ of_struct_told m s u
  as_told u q = rw is q

  pub as_cleared : {ws : List ℕ} {used : ℕ} → Cleared (of_struct_rows m s) [] ws used → Cleared (of_struct_rows n s) [] ws used
  as_cleared c = rw is at c

module _ {m n : Filling} (is : m ≡ n) (s : ℕ) where
  pub as_filling : (u : List ℕ) {x : ℕ} → x ≡ filling_rows n s u → x ≡ filling_rows m s u
  as_filling u q = rw is q

  pub as_length : (u : List ℕ) {x : ℕ} → x ≡ length (filled_words n s u) → x ≡ length (filled_words m s u)
  as_length u q = rw is q

  pub as_fill : (k : ℕ) {ws : List ℕ} {used : ℕ} → Cleared (output_rows (filling_rows m s) (filled_words m s) k) [] ws used → Cleared (output_rows (filling_rows n s) (filled_words n s) k) [] ws used
  as_fill k c = rw is at c

  pub as_filled : (u d d' : List ℕ) → d' ≡ filled_words n s u ++ drop (length (filled_words n s u)) d → d' ≡ filled_words m s u ++ drop (length (filled_words m s u)) d
  as_filled u d d' q = rw is q
