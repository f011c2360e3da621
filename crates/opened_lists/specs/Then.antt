-- What the merge of a list leaves of the chains of an index. Not needed to believe a definition.
use Rattle.std.specs.Prelude.{◌≡◌, List, ℕ, take}
use Rattle.std.specs.Prelude.{Option}
use Rattle.words.specs.Ran.{interned}
use Rattle.words.specs.declared.Interned.{Interned}
use Rattle.index.specs.Covers.{Opened}

-- where its answer fitted, chains that have all used words; where the store was full, nothing is promised
pub record OpenedThen (ws' : List ℕ) (r : Option Interned) (chains' : List ℕ) : Type 0 where
  pub is : (h v : ℕ) → r ≡ interned h v → Opened (take v ws') chains'
