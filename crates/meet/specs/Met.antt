-- What the two functions of the cycle of meet leave. Not needed to believe what meet is (Meet.antt). `u` is the used words.
use Rattle.std.specs.Prelude.{List, ℕ, ◌<◌, ◌≤◌}
use Rattle.words.specs.Ran.{Runs}
use Rattle.std.specs.Prelude.{Option}
use Rattle.words.specs.declared.Interned.{Interned}
use Rattle.meet.specs.Meet.{meet_struct, meet_within}

-- at every n above both handles, what meet gives, where it fits
pub record Met (old new : List ℕ) (used a b : ℕ) (new' : List ℕ) (r : Option Interned) : Type 0 where
  pub is : (n : ℕ) → a < n → b < n → Runs (λ u. meet_within n u a b) old new used new' r

pub record MetStruct (old new : List ℕ) (used a b : ℕ) (new' : List ℕ) (r : Option Interned) : Type 0 where
  pub is : (n : ℕ) → a ≤ n → b ≤ n → Runs (λ u. meet_struct (meet_within n) u a b) old new used new' r
