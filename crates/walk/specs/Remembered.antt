-- What a memory of walks holds: answers that are settled. `u` is the used words.
use Rattle.std.specs.Prelude.{◌≡◌, List, ℕ, ◌<◌}
use Rattle.words.specs.Made.{there}
use Rattle.std.specs.Prelude.{Option}
use Rattle.words.specs.declared.Interned.{Interned}
use Rattle.later.specs.Later.{Later}
use Rattle.later.specs.Right.{RightAfter}
use Rattle.memo.specs.Memo.{Lines}
use Rattle.walk_rules.specs.declared.Walk.{Walk}
use Rattle.walk.specs.Walk.{walk_within}

-- the walk of a gives h, in u and in all used words that come later, and appends nothing
pub record Settled (walk : Walk) (u : List ℕ) (a h : ℕ) : Type 0 where
  pub is : (v : List ℕ) → Later u v → (n : ℕ) → a < n → walk_within walk n v a ≡ there v h

-- each line is a handle and the settled answer to it
abbrev pub Remembers : Walk → List ℕ → List ℕ → Type 0
Remembers walk u memo = Lines (Settled walk u) memo

-- what the function of the walk leaves of a memory: where its answer fitted, one of the used words as they are then
abbrev pub Remembered : Walk → (old new' : List ℕ) → Option Interned → (memo' : List ℕ) → Type 0
Remembered walk old new' r memo' = RightAfter (Settled walk) old new' r memo'
