-- The rows of a list: the first that applies, and what is known where none does. Assumes nothing.
use mathlib.Core.Path.{◌≡◌, ◌∙◌}
use mathlib.Core.List.{List}
use Prim.Native.Nat.{ℕ, ◌≤◌, ◌<◌}
use borrow.Author.Tests.{lt-ltb, le-ltb, ltb-false}
use lib.Dec.{ltb}
use lib.ListN.{length}
use Rattle.call.specs.Handles.{types_rows}
use Rattle.kept.proofs.Rows.{then_off}
use Rattle.every_call.specs.MeetList.{meet_list_rows}

module _ (types u : List ℕ) where
  pub over_long : 4096 < length types → 13 ≡ meet_list_rows types u
  unfolding meet_list_rows
  over_long h = rw (lt-ltb 4096 (length types) h)

  pub not_long : length types ≤ 4096 → (r : ℕ) → r ≡ types_rows types u → r ≡ meet_list_rows types u
  unfolding meet_list_rows
  not_long h r e = e ∙ rw (le-ltb 4096 (length types) h)

  pub list_few : meet_list_rows types u ≡ 0 → length types ≤ 4096
  unfolding meet_list_rows
  list_few q = ltb-false 4096 (length types) (then_off 12 (ltb 4096 (length types)) (types_rows types u) q).0
