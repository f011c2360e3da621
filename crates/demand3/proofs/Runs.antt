-- What every list of calls keeps, from a fresh or a loaded store on: the store is well formed, no two of its entries are equal, the ends of its Ints are
-- 64-bit words, and what stood in its table still stands. Assumes nothing.
use mathlib.Core.Path.{◌≡◌, sym, ◌∙◌}
use mathlib.Core.Bool.{true}
use mathlib.Core.Logic.{◌⊎◌, ⊎_elim}
use mathlib.Core.List.{List, [], ◌∷◌, ◌++◌, append-nil, append_assoc}
use Prim.Native.Nat.{ℕ}
use borrow.Author.Tests.{leb-true}
use lib.Dec.{leb}
use lib.ListN.{length}
use Rattle.words.specs.Table.{Row, entries, Own}
use Rattle.wellformed.specs.Form.{right_length, well_formed, used_words}
use Rattle.wellformed.proofs.Bools.{and_left, and_right}
use Rattle.call.specs.Call.{handle, number}
use Rattle.call.specs.Keep.{Ends}
use Rattle.makers.specs.Makers.{fresh_call}
use Rattle.kept.proofs.Fresh.{fresh_call_is, fresh_own, fresh_ends}
use Rattle.catalogue.specs.Catalogue.{load_call}
use Rattle.loaded.specs.Loaded.{AreBytes}
use Rattle.loaded.proofs.Round.{just_saved, taken_ends}
use Rattle.every_call.specs.Run.{Call, run, typed, all_typed}
use Rattle.every_call.proofs.Keeps.{run_keeps}
use Rattle.demand3.specs.Demand3.{leaves, Gave, FreshStore, LoadedStore}

-- ---- the stores that calls make from a fresh one

pub record Store (ws : List ℕ) : Type 0 where
  pub well : well_formed ws ≡ true
  pub own : Own (entries (used_words ws))
  pub ends : Ends (entries (used_words ws))

-- "The list starts from a fresh store of any length row 1 allows"
pub fresh_store_is : (ws : List ℕ) → right_length ws ≡ true → Store (fresh_call ws).words
unfolding fresh_call
fresh_store_is ws ok =
    let low = leb-true _ _ (and_left (leb 94 (length ws)) (leb (length ws) 1048576) ok) in
    let high = leb-true _ _ (and_right (leb 94 (length ws)) (leb (length ws) 1048576) ok) in
    record { well = fresh_call_is ws low high; own = rw ok (fresh_own (length ws)); ends = rw ok (fresh_ends (length ws)) }

-- what an accepted load leaves
pub loaded_store_is : (f ws : List ℕ) (l : ℕ) → AreBytes f → (load_call f ws).reply ≡ number l → Store (load_call f ws).words
loaded_store_is f ws l bytes took =
    let k = just_saved f ws l bytes took in
    record { well = k.well; own = k.own; ends = taken_ends f ws l k }

-- so a list starts from a store
pub start_store : (ws : List ℕ) → FreshStore ws ⊎ LoadedStore ws → Store ws
start_store ws start =
    ⊎_elim
    (λ (a : FreshStore ws). rw a.2 (fresh_store_is a.0 a.1))
    (λ (b : LoadedStore ws). rw b.5 (loaded_store_is b.0 b.1 b.2 b.3 b.4))
    start

pub run_store : (c : Call) → typed c ≡ true → (ws : List ℕ) → Store ws → Store (run c ws).words
run_store c t ws s =
    let k = run_keeps c t ws s.well in
    record { well = k.well; own = k.own s.own; ends = k.ends s.ends }

-- a later store: what stood in the table still stands at its front
pub record Later (ws ws' : List ℕ) : Type 0 where
  pub extra : List Row
  pub rows : entries (used_words ws') ≡ entries (used_words ws) ++ extra

pub later_same : (ws : List ℕ) → Later ws ws
later_same ws = record { extra = []; rows = sym (append-nil (entries (used_words ws))) }

pub later_then : (ws vs us : List ℕ) → Later ws vs → Later vs us → Later ws us
later_then ws vs us a b = record { extra = a.extra ++ b.extra; rows = b.rows ∙ rw a.rows (append_assoc (entries (used_words ws)) a.extra b.extra) }

pub run_later : (c : Call) → typed c ≡ true → (ws : List ℕ) → Store ws → Later ws (run c ws).words
run_later c t ws s = let k = run_keeps c t ws s.well in record { extra = k.extra; rows = k.rows }

-- ---- every list of calls

pub leaves_store : (cs : List Call) → all_typed cs ≡ true → (ws : List ℕ) → Store ws → Store (leaves run cs ws) × Later ws (leaves run cs ws)
unfolding leaves all_typed
leaves_store [] t ws s = (s, later_same ws)
leaves_store (c ∷ cs) t ws s =
    let vs = (run c ws).words in
    let k = and_left (typed c) (all_typed cs) t in
    let on = leaves_store cs (and_right (typed c) (all_typed cs) t) vs (run_store c k ws s) in
    (on.0, later_then ws vs (leaves run cs vs) (run_later c k ws s) on.1)

-- where a call of the list gave a handle: the store that it came to, and that it left, which is later
pub gave_at : (cs : List Call) → all_typed cs ≡ true → (ws : List ℕ) (c : Call) (h : ℕ) → Store ws → Gave run cs ws c h
    → (vs : List ℕ) × Store vs × ((run c vs).reply ≡ handle h) × Later (run c vs).words (leaves run cs ws)
unfolding leaves all_typed
gave_at [] t ws c h s g = absurd g
gave_at (d ∷ cs) t ws c h s g =
    let k = and_left (typed d) (all_typed cs) t in
    let ts = and_right (typed d) (all_typed cs) t in
    ⊎_elim
    (λ (here : (d ≡ c) × ((run d ws).reply ≡ handle h)).
    rw (← here.0) (ws, s, here.1, (leaves_store cs ts (run d ws).words (run_store d k ws s)).1))
    (λ (on : Gave run cs (run d ws).words c h). gave_at cs ts (run d ws).words c h (run_store d k ws s) on)
    g
