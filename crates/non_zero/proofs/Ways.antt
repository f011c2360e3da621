-- Each way through the functions gives the line of the definition that it stands for, and leaves the memory right. Assumes nothing.
use mathlib.Core.Path.{◌≡◌}
use mathlib.Core.Bool.{Bool, true, false}
use mathlib.Core.List.{List, ◌++◌}
use Prim.Native.Nat.{ℕ, ◌+◌, ◌%◌}
use borrow.Author.Tests.{eq-eqb, ne_eqb}
use lib.ListN.{take, get_or}
use Rattle.words.specs.Made.{make}
use Rattle.words.specs.Ran.{Segments, Runs}
use Rattle.std.specs.Prelude.{Option}
use Rattle.words.specs.Ran.{interned}
use Rattle.words.specs.declared.Interned.{Interned}
use Rattle.type_integer.specs.Signed.{less, larger}
use Rattle.makers.specs.Entries.{int_entry}
use Rattle.index.specs.Covers.{Covers}
use Rattle.parts.specs.Parts.{ReadyOne}
use Rattle.parts.proofs.Good.{one_segments}
use Rattle.walk_rules.specs.declared.Walk.TheVariants.{Glb}
use Rattle.walk_answers.proofs.Answers.{there-ran}
use Rattle.walk.specs.Walk.{walk_of}
use Rattle.lent_memory.specs.Memory.{Right, RightThen}
use Rattle.lent_memory.proofs.Laws.{then_kept}
use Rattle.every_call.specs.NonZero.{minus_one, non_zero_int, non_zero_of}
use Rattle.every_call.proofs.NonZero.{non_zero_grows}

-- ---- an Int, whose ends are min and max

module _ (old new : List ℕ) (used a min max : ℕ) (seg : Segments old new used) (t : Bool) (is : t ≡ less max min) where
  pub int_high : t ≡ true → Runs (non_zero_int a min max) old new used new (interned a used)
  int_high e = rw (← is, e) (there-ran old new used seg a)

  module _ (e : t ≡ false) where
    pub int_begins : min ≡ 0 → (x : ℕ) → x ≡ larger max 1 → (new' : List ℕ) (r : Option Interned) → Runs (λ u. make u (int_entry 1 x)) old new used new' r → Runs (non_zero_int a min max) old new used new' r
    int_begins z x q new' r ran = rw (← is, e, eq-eqb min 0 z) (rw q at ran)

    module _ (some : min ≡ 0 → ⊥) where
      pub int_ends : max ≡ 0 → (new' : List ℕ) (r : Option Interned) → Runs (λ u. make u (int_entry min minus_one)) old new used new' r → Runs (non_zero_int a min max) old new used new' r
      int_ends z new' r ran = rw (← is, e, ne_eqb min 0 some, eq-eqb max 0 z) ran

      pub int_stays : (max ≡ 0 → ⊥) → Runs (non_zero_int a min max) old new used new (interned a used)
      int_stays n = rw (← is, e, ne_eqb min 0 some, ne_eqb max 0 n) (there-ran old new used seg a)

-- ---- a type, whose head is x

module _ {old new : List ℕ} {used a : ℕ} (rd : ReadyOne old new used a) where
  pub int_ready : {index : List ℕ} → Covers (take used (old ++ new)) index → Segments old new used × Covers (take used (old ++ new)) index
  int_ready c = (one_segments rd, c)

  module _ {memory : List ℕ} (right : Right (take used (old ++ new)) memory) (x : ℕ) (is : x ≡ get_or (take used (old ++ new)) a 0) where
    -- an answer for which the memory was not asked
    alone : {new' : List ℕ} {r : Option Interned} → Runs (λ u. non_zero_of u a) old new used new' r → Runs (λ u. non_zero_of u a) old new used new' r × RightThen old new' r memory
    alone {new'} ran = let u = take used (old ++ new) in (ran, then_kept (one_segments rd) right (non_zero_of u a) (non_zero_grows u a) new' ran)

    pub an_int : x % 256 ≡ 5 → (min max : ℕ) → min ≡ get_or (take used (old ++ new)) (a + 1) 0 → max ≡ get_or (take used (old ++ new)) (a + 2) 0 → {new' : List ℕ} {r : Option Interned} → Runs (non_zero_int a min max) old new used new' r
        → Runs (λ u. non_zero_of u a) old new used new' r × RightThen old new' r memory
    unfolding non_zero_of
    an_int e min max p q ran = alone (rw (← is, eq-eqb (x % 256) 5 e, ← p, ← q) ran)

    module _ (ni : x % 256 ≡ 5 → ⊥) where
      pub a_pointer : x % 256 ≡ 10 → Runs (λ u. non_zero_of u a) old new used new (interned 91 used) × RightThen old new (interned 91 used) memory
      unfolding non_zero_of
      a_pointer e = alone (rw (← is, ne_eqb (x % 256) 5 ni, eq-eqb (x % 256) 10 e) (there-ran old new used (one_segments rd) 91))

      pub another : (x % 256 ≡ 10 → ⊥) → {new' memory' : List ℕ} {r : Option Interned} → Runs (λ u. walk_of Glb u a) old new used new' r × RightThen old new' r memory'
          → Runs (λ u. non_zero_of u a) old new used new' r × RightThen old new' r memory'
      unfolding non_zero_of
      another np t = (rw (← is, ne_eqb (x % 256) 5 ni, ne_eqb (x % 256) 10 np) t.0, t.1)
