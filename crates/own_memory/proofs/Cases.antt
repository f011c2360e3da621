-- An operation, once it is known which. Assumes nothing.
use mathlib.Core.Path.{◌≡◌}
use mathlib.Core.List.{List, []}
use Prim.Native.Nat.{ℕ, ◌+◌, ◌≤◌}
use native.Mathlib.Omega.{arith}
use lib.ListN.{length}
use Rattle.std.specs.Prelude.{Option}
use Rattle.words.specs.declared.Interned.{Interned}
use Rattle.parts.specs.Parts.{Ready, ReadyOne}
use Rattle.meet.specs.Met.{Met}
use Rattle.walk_rules.specs.declared.Walk.{Walk}
use Rattle.walk.specs.Walked.{Walked}
use Rattle.finals.specs.Known.{Knows}
use Rattle.finals.proofs.Knows.{knows_blank}
use Rattle.make_ro.specs.MadeRo.{MadeRo}
use Rattle.make_ro.specs.Remembered.{Remembered}
use Rattle.join.specs.Join.{join_of}
use Rattle.words.specs.Ran.{Runs}
use Rattle.own_memory.specs.declared.Operation.{Operation}
use Rattle.own_memory.specs.declared.Operation.TheVariants.{Meet, Walk as OfWalk, MakeRo, Join}
use Rattle.own_memory.specs.Done.{Asked, Done, KnowsAfter}

-- of a set without words nothing is known
pub knows_empty : (u : List ℕ) → Knows u []
knows_empty u = knows_blank u 0

-- a store in two segments, whatever the operation
pub asked_store : (op : Operation) (old new : List ℕ) (used a : ℕ) → Asked op old new used a → (length old ≤ used) × (used ≤ length old + length new) × (used ≤ 1048576)
asked_store (Meet b) old new used a r = (r.over, r.within, omega (arith, r.within, r.small))
asked_store (OfWalk w) old new used a r = (r.over, r.within, omega (arith, r.within, r.small))
asked_store MakeRo old new used a r = (r.over, r.within, omega (arith, r.within, r.small))
asked_store (Join b) old new used a r = (r.over, r.within, omega (arith, r.within, r.small))

module _ (op : Operation) (old new : List ℕ) (used a : ℕ) where
  pub asked_meet : (b : ℕ) → op ≡ Meet b → Asked op old new used a → Ready old new used 1 11 a b
  asked_meet b e q = rw e at q

  pub done_meet : (new' known' : List ℕ) (r : Option Interned) (b : ℕ) → op ≡ Meet b → Met old new used a b new' r → Done op old new used a new' r × KnowsAfter op old new' r known'
  done_meet new' known' r b e m = rw e (m, tt)

  pub asked_walk : (w : Walk) → op ≡ OfWalk w → Asked op old new used a → ReadyOne old new used a
  asked_walk w e q = rw e at q

  pub done_walk : (new' known' : List ℕ) (r : Option Interned) (w : Walk) → op ≡ OfWalk w → Walked w old new used a new' r → Done op old new used a new' r × KnowsAfter op old new' r known'
  done_walk new' known' r w e m = rw e (m, tt)

  pub asked_ro : op ≡ MakeRo → Asked op old new used a → ReadyOne old new used a
  asked_ro e q = rw e at q

  pub done_ro : (new' known' : List ℕ) (r : Option Interned) → op ≡ MakeRo → MadeRo old new used a new' r → {memo' : List ℕ} → Remembered old new' r memo' known' → Done op old new used a new' r × KnowsAfter op old new' r known'
  done_ro new' known' r e m k = rw e (m, λ h v q. (k.is h v q).finals)

  pub asked_join : (b : ℕ) → op ≡ Join b → Asked op old new used a → Ready old new used 1 11 a b
  asked_join b e q = rw e at q

  pub done_join : (new' known' : List ℕ) (r : Option Interned) (b : ℕ) → op ≡ Join b → Runs (λ u. join_of u a b) old new used new' r → Done op old new used a new' r × KnowsAfter op old new' r known'
  done_join new' known' r b e m = rw e (m, tt)
