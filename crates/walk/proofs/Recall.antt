-- A memory of walks on each way through the walk. Assumes nothing.
use mathlib.Core.Path.{◌≡◌}
use mathlib.Core.List.{List, ◌++◌}
use Prim.Native.Nat.{ℕ}
use lib.ListN.{take}
use Rattle.std.specs.Prelude.{Option, Some}
use Rattle.words.specs.Ran.{interned}
use Rattle.words.specs.declared.Interned.{Interned}
use Rattle.parts.specs.Parts.{ReadyOne}
use Rattle.later.specs.Later.{Later}
use Rattle.later.specs.Right.{Stays}
use Rattle.later.proofs.Later.{later_same, later_then}
use Rattle.later.proofs.Right.{runs_known, runs_settled, lines_later, right_same, right_learned}
use Rattle.memo.specs.Memo.{Tells, Learned}
use Rattle.memo.proofs.Lines.{recalled}
use Rattle.walk_rules.specs.declared.Walk.{Walk}
use Rattle.walk.specs.Walked.{Walked}
use Rattle.walk.specs.Walk.{walk_within}
use Rattle.walk.specs.Remembered.{Settled, Remembers, Remembered}
use Rattle.walk.proofs.Settled.{walk_settled}

-- what is left of the words and of a memory
abbrev pub Both : Walk → (old new : List ℕ) (used a : ℕ) → (new' : List ℕ) → Option Interned → (memo' : List ℕ) → Type 0
Both walk old new used a new' r memo' = Walked walk old new used a new' r × Remembered walk old new' r memo'

-- what is settled stays so
pub settled_stays : (walk : Walk) → Stays (Settled walk)
settled_stays walk u v a h x s = record { is = λ w y. s.is w (later_then x y) }

pub remembers_later : {walk : Walk} {u v memo : List ℕ} → Later u v → Remembers walk u memo → Remembers walk v memo
remembers_later {walk} = lines_later (settled_stays walk)

module _ {old new : List ℕ} {used a : ℕ} (rd : ReadyOne old new used a) where
  abbrev u : List ℕ
  u = take used (old ++ new)

  -- a line of the memory
  pub walked_known : {key : ℕ} → ((key ≡ 0 → ⊥) → key ≡ a) → {walk : Walk} {memo : List ℕ} → Remembers walk u memo → {r : Option ℕ} → Tells memo key r → (h : ℕ) → r ≡ Some h → Both walk old new used a new (interned h used) memo
  walked_known {key} is_a {walk} m t h e =
      let s : Settled walk u key h = recalled m t h e in
      let q = is_a (t.line h e).1.some in
      let s₁ : Settled walk u a h = rw q at s in
      (record { is = runs_known rd (walk_within walk) h (s₁.is u (later_same u)) }, right_same (Settled walk) m)

  -- an answer is settled once it is given
  walked_settled : {walk : Walk} {new' : List ℕ} {r : Option Interned} → Walked walk old new used a new' r → (h v : ℕ) → r ≡ interned h v → Settled walk (take v (old ++ new')) a h
  walked_settled {walk} {new'} {r} t h v e = record { is = runs_settled rd (walk_within walk) (walk_settled walk) new' r t.is h v e }

  -- and a line of the memory from then on
  pub walked_noted : {key : ℕ} → ((key ≡ 0 → ⊥) → key ≡ a) → {walk : Walk} {new' memo memo' : List ℕ} {m : Option Interned} → Both walk old new used a new' m memo → Learned memo key m memo' → (r : Option Interned) → r ≡ m → Both walk old new used a new' r memo'
  walked_noted is_a {walk} {new'} {memo} {memo'} {m} b l r e =
      let c : Both walk old new used a new' m memo' = (b.0, right_learned (Settled walk) b.1 l (λ h v f some. rw (is_a some) (walked_settled b.0 h v f))) in
      rw e c
