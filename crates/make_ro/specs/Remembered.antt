-- What a memory of make_ro holds: answers that are settled; beside it stands a set of types that are known to be final. `u` is the used words.
use Rattle.std.specs.Prelude.{◌≡◌, List, ◌++◌, ℕ, ◌<◌, take}
use Rattle.words.specs.Made.{there}
use Rattle.std.specs.Prelude.{Option}
use Rattle.words.specs.Ran.{interned}
use Rattle.words.specs.declared.Interned.{Interned}
use Rattle.later.specs.Later.{Later}
use Rattle.memo.specs.Memo.{Lines}
use Rattle.finals.specs.Known.{Knows}
use Rattle.make_ro.specs.ReadOnly.{make_ro_within}

-- make_ro of a gives h, in u and in all used words that come later, and appends nothing
pub record Settled (u : List ℕ) (a h : ℕ) : Type 0 where
  pub is : (v : List ℕ) → Later u v → (n : ℕ) → a < n → make_ro_within n v a ≡ there v h

-- each line is a handle and the settled answer to it, and the set has final types
pub record Remembers (u memo known : List ℕ) : Type 0 where
  pub lines : Lines (Settled u) memo
  pub finals : Knows u known

-- what the functions leave of both: where the answer fitted, they are right for the used words as they are then
pub record Remembered (old new' : List ℕ) (r : Option Interned) (memo' known' : List ℕ) : Type 0 where
  pub is : (h v : ℕ) → r ≡ interned h v → Remembers (take v (old ++ new')) memo' known'
