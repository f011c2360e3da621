-- The rows of values, by the tests. Assumes nothing.
use Rattle.std.proofs.Common.{◌≡◌, ℕ, ◌+◌, ◌%◌, ◌^◌, ◌<◌, ◌≤◌, Bool, true, false, not, ltb, sym, ◌∙◌, le-ltb, lt-ltb, le-leb}
use borrow.Author.Tests.{lt-leb}
use Rattle.wellformed.specs.Entry.{is_flag}
use Rattle.call.specs.Call.{◌when◌}

pub long_name : (n : ℕ) → 255 < n → 5 ≡ (5 when ltb 255 n)
long_name n h = rw (lt-ltb _ _ h)

pub short_name : (n : ℕ) → n ≤ 255 → 0 ≡ (5 when ltb 255 n)
short_name n h = rw (le-ltb _ _ h)

module _ (v : ℕ) where
  pub no_flag : 1 < v → 4 ≡ (4 when not (is_flag v))
  no_flag h = rw (lt-leb _ _ h)

  pub a_flag : v ≤ 1 → 0 ≡ (4 when not (is_flag v))
  a_flag h = rw (le-leb _ _ h)
