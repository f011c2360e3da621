-- An opened store: words that row 1 has passed, with an index and a memory of answers that are right for them. As long as nobody else writes any of the three lists, row 1 need
-- not be tested again: every opened call leaves an opened store.
use Rattle.std.specs.Prelude.{◌≡◌, true, not, List, ℕ, ltb, length, ⊤, Result, IsOk, IsErr}
use Rattle.wellformed.specs.Form.{well_formed, used_words}
use Rattle.call.specs.declared.Refusal.{Refusal}
use Rattle.call.specs.Call.{Reply, accepted, ◌when◌, ◌otherwise◌, reply_after}
use Rattle.lent_memory.specs.Memory.{Right}
use Rattle.store_index.specs.StoreIndex.{index_size, IndexOf}

-- ---- the store

pub record OpenStore (ws index memory : List ℕ) : Type 0 where
  pub well : well_formed ws ≡ true
  pub whole : IndexOf ws index
  pub right : Right (used_words ws) memory

-- ---- opening

-- row 1, and row 11, "output shorter than the answer", for an index that is too short
abbrev pub open_reply : List ℕ → ℕ → Reply
open_reply ws n = reply_after (1 when not (well_formed ws) otherwise 11 when ltb n (index_size (length ws))) accepted

-- an accepted store is open; a refused call changes no word
pub record Opening (ws index memory index' memory' : List ℕ) (r : Result ⊤ Refusal) : Type 0 where
  pub opens : IsOk r → OpenStore ws index' memory'
  pub kept : IsErr r → (index' ≡ index) × (memory' ≡ memory)
