-- What the function of the walk leaves. Not needed to believe what dual, glb and lub are (Walk.antt).
use Rattle.std.specs.Prelude.{List, ℕ, ◌<◌}
use Rattle.words.specs.Ran.{Runs}
use Rattle.std.specs.Prelude.{Option}
use Rattle.words.specs.declared.Interned.{Interned}
use Rattle.walk_rules.specs.declared.Walk.{Walk}
use Rattle.walk.specs.Walk.{walk_within}

-- at every n above the handle, what the walk gives, where it fits
pub record Walked (walk : Walk) (old new : List ℕ) (used a : ℕ) (new' : List ℕ) (r : Option Interned) : Type 0 where
  pub is : (n : ℕ) → a < n → Runs (λ u. walk_within walk n u a) old new used new' r
