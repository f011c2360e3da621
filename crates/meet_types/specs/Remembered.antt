-- What a memory of meets holds: answers that are settled. `u` is the used words.
use Rattle.std.specs.Prelude.{◌≡◌, List, ℕ, ◌+◌, ◌*◌, ◌<◌, length}
use Rattle.words.specs.Made.{there}
use Rattle.std.specs.Prelude.{Option, None}
use Rattle.words.specs.declared.Interned.{Interned}
use Rattle.memo.specs.Memo.{Lines, answers}
use Rattle.later.specs.Later.{Later}
use Rattle.later.specs.Right.{RightAfter}
use Rattle.meet.specs.Meet.{meet_within}

-- two handles as one number
abbrev pub pair_key : ℕ → ℕ → ℕ
pair_key a b = a * answers + b

-- the meet of the two handles of this key gives h, in u and in all used words that come later, and appends nothing
pub record Settled (u : List ℕ) (key h : ℕ) : Type 0 where
  pub is : (v : List ℕ) → Later u v → (a b : ℕ) → b < answers → key ≡ pair_key a b → (n : ℕ) → a < n → b < n → meet_within n v a b ≡ there v h

-- each line is a pair and the settled answer to it
abbrev pub Remembers : List ℕ → List ℕ → Type 0
Remembers u memo = Lines (Settled u) memo

-- what the two functions of the cycle leave of a memory: where the answer fitted, one that is right for the used words as they are then; and where no word was
-- lent to append to, one that is right for the words as they were, also where the answer did not fit (isa meets so)
pub record Remembered (old new' : List ℕ) (r : Option Interned) (memo' : List ℕ) : Type 0 where
  pub after : RightAfter Settled old new' r memo'
  pub full : r ≡ None → length new' ≡ 0 → Remembers old memo'
