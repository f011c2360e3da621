-- What the memory of join holds: its first half is a memory of duals, its second half one of meets; an odd last word is not used. `u` is the used words.
use Rattle.std.specs.Prelude.{◌≡◌, List, ◌++◌, ℕ, ◌/◌, length, take, drop}
use Rattle.std.specs.Prelude.{Option}
use Rattle.words.specs.Ran.{interned}
use Rattle.words.specs.declared.Interned.{Interned}
use Rattle.walk_rules.specs.declared.Walk.TheVariants.{Dual}
use Rattle.walk.specs.Remembered.{Remembers as RemembersWalks}
use Rattle.meet_types.specs.Remembered.{Remembers as RemembersMeets}

-- each line of the first half is a handle and its settled dual, each line of the second half a pair and its settled meet
pub record Remembers (u memory : List ℕ) : Type 0 where
  pub duals : RemembersWalks Dual u (take (length memory / 2) memory)
  pub meets : RemembersMeets u (take (length memory / 2) (drop (length memory / 2) memory))

-- what the functions leave of it: where the answer fitted, both halves are right for the used words as they are then
pub record Remembered (old new' : List ℕ) (r : Option Interned) (memory' : List ℕ) : Type 0 where
  pub is : (h v : ℕ) → r ≡ interned h v → Remembers (take v (old ++ new')) memory'
