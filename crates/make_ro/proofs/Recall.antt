-- A memory of make_ro, and the set of final types beside it, on each way through. Assumes nothing.
use mathlib.Core.Path.{◌≡◌}
use mathlib.Core.List.{List, ◌++◌}
use Prim.Native.Nat.{ℕ}
use native.Mathlib.Omega.{arith}
use lib.ListN.{length, take, replicate}
use Rattle.words.specs.Made.{Grown, make}
use Rattle.words.specs.Ran.{Segments, Ran, Runs}
use Rattle.std.specs.Prelude.{Option, Some, None}
use Rattle.words.specs.Ran.{interned}
use Rattle.words.specs.declared.Interned.{Interned}
use Rattle.words.proofs.Extend.{Extends}
use Rattle.words.proofs.Placed.{make_extends}
use Rattle.makers.specs.Entries.{pointer_entry}
use Rattle.structs.specs.Remade.{remake}
use Rattle.parts.specs.Parts.{ReadyOne}
use Rattle.later.specs.Later.{Later}
use Rattle.later.specs.Right.{Stays}
use Rattle.later.proofs.Later.{later_same, later_then}
use Rattle.later.proofs.Right.{runs_known, runs_settled, made_later, lines_later}
use Rattle.memo.specs.Memo.{Tells, Learned}
use Rattle.memo.proofs.Lines.{recalled, noted}
use Rattle.finals.specs.Known.{Knows}
use Rattle.finals.proofs.Knows.{knows_later}
use Rattle.make_ro.specs.ReadOnly.{make_ro_within}
use Rattle.make_ro.specs.MadeRo.{MadeRo}
use Rattle.make_ro.specs.Remembered.{Settled, Remembers, Remembered}
use Rattle.make_ro.proofs.Grows.{struct_grows}
use Rattle.words.proofs.Room.{same_interned}
use Rattle.make_ro.proofs.Settled.{make_ro_settled}

-- what is settled stays so
pub settled_stays : Stays Settled
settled_stays u v a h x s = record { is = λ w y. s.is w (later_then x y) }

pub remembers_later : {u v memo known : List ℕ} → Later u v → Remembers u memo known → Remembers v memo known
remembers_later x m = record { lines = lines_later settled_stays x m.lines; finals = knows_later x m.finals }

-- is_final was asked
pub remembers_finals : {u memo known known' : List ℕ} → Remembers u memo known → Knows u known' → Remembers u memo known'
remembers_finals m k = record { lines = m.lines; finals = k }

-- nothing is promised where the store was full
pub remembered_full : {old new' memo known : List ℕ} → Remembered old new' None memo known
remembered_full = record { is = λ h v e. let z : ◌≡◌ {A = ℕ} 0 1 = cc in absurd (omega arith) }

-- nothing was appended
pub remembered_same : {old new memo known : List ℕ} {used h : ℕ} → Remembers (take used (old ++ new)) memo known → Remembered old new (interned h used) memo known
remembered_same {used = used} m = record { is = λ k v e. rw (← (same_interned e).1) m }

-- an entry was made
module _ {old now memo known : List ℕ} {v : ℕ} (s : Segments old now v) (m : Remembers (take v (old ++ now)) memo known) {now₂ : List ℕ} {o : Option Interned} where
  remembered_made : (g : Grown) → Extends (take v (old ++ now)) g.words → Ran v g (old ++ now) (old ++ now₂) o → Remembered old now₂ o memo known
  remembered_made g x ran = record { is = λ h v' e. remembers_later (made_later s g x now₂ ran h v' e) m }

  pub remembered_pointer : (h nil : ℕ) → Runs (λ z. make z (pointer_entry h nil z)) old now v now₂ o → Remembered old now₂ o memo known
  remembered_pointer h nil ran = let w = take v (old ++ now) in remembered_made (make w (pointer_entry h nil w)) (make_extends w (pointer_entry h nil w)) ran

  pub remembered_struct : (a : ℕ) (hs : List ℕ) → Runs (remake a hs (replicate (length hs) 1)) old now v now₂ o → Remembered old now₂ o memo known
  remembered_struct a hs ran = let w = take v (old ++ now) in remembered_made (remake a hs (replicate (length hs) 1) w) (struct_grows a (record { words = w; handles = hs })) ran

module _ {old new : List ℕ} {used a : ℕ} (rd : ReadyOne old new used a) where
  abbrev u : List ℕ
  u = take used (old ++ new)

  -- a line of the memory
  pub made_known : {key : ℕ} → ((key ≡ 0 → ⊥) → key ≡ a) → {memo known : List ℕ} → Remembers u memo known → {r : Option ℕ} → Tells memo key r → (h : ℕ) → r ≡ Some h → MadeRo old new used a new (interned h used) × Remembered old new (interned h used) memo known
  made_known {key} is_a m t h e =
      let s : Settled u key h = recalled m.lines t h e in
      let q = is_a (t.line h e).1.some in
      let s₁ : Settled u a h = rw q at s in
      (record { is = runs_known rd make_ro_within h (s₁.is u (later_same u)) }, remembered_same m)

  -- an answer is settled once it is given
  made_settled : {new' : List ℕ} {r : Option Interned} → MadeRo old new used a new' r → (h v : ℕ) → r ≡ interned h v → Settled (take v (old ++ new')) a h
  made_settled {new'} {r} t h v e = record { is = runs_settled rd make_ro_within make_ro_settled new' r t.is h v e }

  -- and a line of the memory from then on
  pub made_noted : {key : ℕ} → ((key ≡ 0 → ⊥) → key ≡ a) → {new' memo memo' known : List ℕ} {m : Option Interned} → MadeRo old new used a new' m → Remembered old new' m memo known → Learned memo key m memo' → (r : Option Interned) → r ≡ m
      → MadeRo old new used a new' r × Remembered old new' r memo' known
  made_noted is_a {new'} {memo} {memo'} {known} {m} t b l r e =
      let c : Remembered old new' m memo' known = record { is = λ h v f. record { lines = noted (b.is h v f).lines (l.at h v f) (λ some. rw (is_a some) (made_settled t h v f)); finals = (b.is h v f).finals } } in
      (rw e t, rw e c)
