-- What an opened store gives its calls, and what they leave. Assumes nothing.
use mathlib.Core.Path.{◌≡◌, refl}
use mathlib.Core.Bool.{true}
use mathlib.Core.List.{List, [], ◌∷◌}
use Prim.Native.Nat.{ℕ, ◌-◌}
use lib.ListN.{length, take, drop, get_or}
use Rattle.words.specs.Table.{rows, entries, is_at, starts}
use Rattle.bitset.specs.Bitset.{nowhere}
use Rattle.wellformed.specs.Form.{well_formed}
use Rattle.wellformed.proofs.Before.{tests}
use Rattle.index.specs.Covers.{Covers}
use Rattle.call.specs.Call.{Reply, left}
use Rattle.call.specs.Steps.{Marked}
use Rattle.call.specs.Keep.{Keeps}
use Rattle.later.proofs.Keeps.{later_keeps}
use Rattle.every_call.specs.Run.{Call, run, typed}
use Rattle.every_call.proofs.Keeps.{run_keeps}
use Rattle.store_index.specs.StoreIndex.{marks_size, IndexOf}
use Rattle.store_index.specs.Steps.{Stale}
use Rattle.store_index.proofs.Index.{tail_all}
use Rattle.opened.specs.OpenStore.{OpenStore}
use Rattle.opened.proofs.Index.{stale}

-- ---- what is known of an opened store

module _ {ws index memory : List ℕ} (o : OpenStore ws index memory) (k : ℕ) (is : k ≡ marks_size (length ws)) where
  pub marked_rows : Marked ws (take k index) (get_or ws 0 0)
  marked_rows = record { within = (tests ws o.well).within; marks = rw is o.whole.marks }

  pub lent_covers : Covers (take (get_or ws 0 0) ws) (take (length index - k) (drop k index))
  lent_covers = rw (tail_all k index, is) o.whole.chains.covers

-- no entry starts in word 0
pub no_starts : (ws : List ℕ) → nowhere ≡ starts (take 1 ws)
unfolding nowhere is_at entries rows
no_starts [] = refl
no_starts (w ∷ ws) = refl

-- ---- over a call

module _ (ws ws' : List ℕ) (c : Call) (t : typed c ≡ true) (ok : well_formed ws ≡ true) (r : Reply) (q : left r ws' ≡ run c ws) where
  keeps : Keeps ws (left r ws')
  keeps = rw q (run_keeps c t ws ok)

  pub after_well : well_formed ws' ≡ true
  after_well = keeps.well

  pub after_stale : (index : List ℕ) → length ws' ≡ length ws → IndexOf ws index → Stale ws' index
  after_stale index same x = stale ws index ok x ws' same (later_keeps ws (left r ws') ok keeps) after_well
