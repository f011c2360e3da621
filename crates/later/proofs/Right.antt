-- A memory stays right on each way through an operation. Assumes nothing.
use mathlib.Core.Path.{◌≡◌, sym, ap, ◌∙◌}
use mathlib.Core.List.{List, ◌++◌}
use Prim.Native.Nat.{ℕ, ◌<◌}
use native.Mathlib.Omega.{arith}
use lib.ListN.{length, take, length-append}
use lib.Seq.{length-take-le}
use Rattle.words.specs.Made.{Grown, there}
use Rattle.words.specs.Ran.{Segments, Ran, Runs}
use Rattle.std.specs.Prelude.{Option, None}
use Rattle.words.specs.Ran.{interned}
use Rattle.words.specs.declared.Interned.{Interned}
use Rattle.words.proofs.Extend.{Extends}
use Rattle.words.proofs.Room.{fitted, fit_front, same_interned}
use Rattle.parts.specs.Parts.{Good, Part, ReadyOne}
use Rattle.parts.proofs.Good.{part_below}
use Rattle.parts.proofs.Grew.{grew_none, grew_there}
use Rattle.memo.specs.Memo.{Lines, Learned}
use Rattle.memo.proofs.Lines.{lines_weak, noted}
use Rattle.later.specs.Later.{Later}
use Rattle.later.specs.Right.{Stays, RightAfter}
use Rattle.later.proofs.Later.{later_extends}

-- an operation on a type, below k: what it answered once it answers ever after, and nothing has to be appended
abbrev pub Settles₁ : ℕ → (List ℕ → ℕ → Grown) → Type 0
Settles₁ k op = (u : List ℕ) (a d : ℕ) → Good u → Part u k d 1 11 a → (v : List ℕ) → Later (op u a).words v → op v a ≡ there v (op u a).handle

module _ {old new : List ℕ} {used a : ℕ} (rd : ReadyOne old new used a) (op : ℕ → List ℕ → ℕ → Grown) where
  -- an answer that is known is what the operation gives
  pub runs_known : (h : ℕ) → ((n : ℕ) → a < n → op n (take used (old ++ new)) a ≡ there (take used (old ++ new)) h) → (n : ℕ) → a < n → Runs (λ u. op n u a) old new used new (interned h used)
  runs_known h known n l = rw (known n l) (grew_there {old = old} {new = new} h (grew_none rd.good rd.within))

  -- and an answer that was given is known ever after
  pub runs_settled : ((n : ℕ) → Settles₁ n (op n)) → (new' : List ℕ) (r : Option Interned) → ((n : ℕ) → a < n → Runs (λ u. op n u a) old new used new' r) → (h v : ℕ) → r ≡ interned h v → (w : List ℕ) → Later (take v (old ++ new')) w → (n : ℕ) → a < n → op n w a ≡ there w h
  runs_settled settles new' r t h v e w x n l =
      let u = take used (old ++ new) in
      let g = op n u a in
      let f = fitted used g (old ++ new) (old ++ new') r (t n l) h v e in
      let q = fit_front g (old ++ new) (old ++ new') h v f in
      let y : Later g.words w = rw q at x in
      settles n u a 33 rd.good (part_below n l rd.first) w y ∙ ap (there w) (sym f.handle)

-- the used words of an answer that fitted came later than those before
pub made_later : {old now : List ℕ} {v : ℕ} → Segments old now v → (g : Grown) → Extends (take v (old ++ now)) g.words → (now₂ : List ℕ) {o : Option Interned} → Ran v g (old ++ now) (old ++ now₂) o → (h v' : ℕ) → o ≡ interned h v' → Later (take v (old ++ now)) (take v' (old ++ now₂))
made_later {old} {now} {v} s g x now₂ {o} ran h v' e =
    let n : length (take v (old ++ now)) ≡ v = length-take-le v (old ++ now) (omega (arith, s.high, length-append old now)) in
    let f = fitted v g (old ++ now) (old ++ now₂) o ran h v' e in
    let q = fit_front g (old ++ now) (old ++ now₂) h v' f in
    rw q (later_extends (omega (arith, s.low)) s.full x)

-- nothing is promised where the store was full
pub right_full : {P : List ℕ → ℕ → ℕ → Type 0} {old new' memo : List ℕ} → RightAfter P old new' None memo
right_full = record { is = λ h v e. let z : ◌≡◌ {A = ℕ} 0 1 = cc in absurd (omega arith) }

-- nothing was appended
pub right_same : (P : List ℕ → ℕ → ℕ → Type 0) {old new memo : List ℕ} {used h : ℕ} → Lines (P (take used (old ++ new))) memo → RightAfter P old new (interned h used) memo
right_same P {used = used} m = record { is = λ k v e. rw (← (same_interned e).1) m }

-- the answer is noted, where it is right for its key
pub right_learned : (P : List ℕ → ℕ → ℕ → Type 0) {old new' memo memo' : List ℕ} {r : Option Interned} {key : ℕ} → RightAfter P old new' r memo → Learned memo key r memo'
    → ((h v : ℕ) → r ≡ interned h v → (key ≡ 0 → ⊥) → P (take v (old ++ new')) key h) → RightAfter P old new' r memo'
right_learned P m l s = record { is = λ h v e. noted (m.is h v e) (l.at h v e) (s h v e) }

module _ {P : List ℕ → ℕ → ℕ → Type 0} (stays : Stays P) where
  pub lines_later : {u v memo : List ℕ} → Later u v → Lines (P u) memo → Lines (P v) memo
  lines_later {u} {v} x = lines_weak (λ key answer p. stays u v key answer x p)

  -- entries were made, in words for which the memory is right
  pub right_made : {old now memo : List ℕ} {v : ℕ} → Segments old now v → Lines (P (take v (old ++ now))) memo → (g : Grown) → Extends (take v (old ++ now)) g.words → {now₂ : List ℕ} {o : Option Interned} → Ran v g (old ++ now) (old ++ now₂) o → RightAfter P old now₂ o memo
  right_made s m g x {now₂} ran = record { is = λ h v' e. lines_later (made_later s g x now₂ ran h v' e) m }
