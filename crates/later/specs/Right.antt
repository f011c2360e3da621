-- What a memory of answers holds: answers that stay right as the store grows. `u` is the used words.
use Rattle.std.specs.Prelude.{◌≡◌, List, ◌++◌, ℕ, take}
use Rattle.std.specs.Prelude.{Option}
use Rattle.words.specs.Ran.{interned}
use Rattle.words.specs.declared.Interned.{Interned}
use Rattle.memo.specs.Memo.{Lines}
use Rattle.later.specs.Later.{Later}

-- what holds of a key and its answer once holds ever after
abbrev pub Stays : (List ℕ → ℕ → ℕ → Type 0) → Type 0
Stays P = (u v : List ℕ) (key answer : ℕ) → Later u v → P u key answer → P v key answer

-- what an operation leaves of a memory: where its answer fitted, one that is right for the used words as they are then
pub record RightAfter (P : List ℕ → ℕ → ℕ → Type 0) (old new' : List ℕ) (r : Option Interned) (memo' : List ℕ) : Type 0 where
  pub is : (h v : ℕ) → r ≡ interned h v → Lines (P (take v (old ++ new'))) memo'
