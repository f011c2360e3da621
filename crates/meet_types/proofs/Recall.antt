-- A memory of meets on each way through the two functions. Assumes nothing.
use mathlib.Core.Path.{◌≡◌, refl, sym, ap, ◌∙◌}
use mathlib.Core.Bool.{Bool, true, false}
use mathlib.Core.Logic.{⊎_elim}
use mathlib.Core.List.{List, [], ◌∷◌, ◌++◌, append-nil}
use Prim.Native.Nat.{ℕ, zero, suc, ◌+◌, ◌≤◌, ◌<◌}
use native.Mathlib.Omega.{arith}
use lib.Dec.{eqb}
use lib.ListN.{length, take}
use lib.Seq.{take_all}
use Rattle.words.specs.Made.{Grown, there, make}
use Rattle.words.specs.Ran.{Segments, Ran, Runs}
use Rattle.std.specs.Prelude.{Option, Some, None}
use Rattle.words.specs.Ran.{interned}
use Rattle.words.specs.declared.Interned.{Interned}
use Rattle.words.proofs.Extend.{Extends}
use Rattle.words.proofs.Placed.{make_extends}
use Rattle.words.proofs.Room.{fitted, fit_front, overflowed}
use Rattle.words.specs.Columns.{kind_on, count_on}
use Rattle.parts.specs.Parts.{Part, Ready}
use Rattle.parts.proofs.Good.{part_below}
use Rattle.parts.proofs.Grew.{grew_none, grew_there}
use Rattle.later.specs.Later.{Later}
use Rattle.later.specs.Right.{Stays}
use Rattle.later.proofs.Later.{later_same, later_then}
use Rattle.later.proofs.Right.{right_full, right_same, right_learned, right_made}
use Rattle.makers.specs.Entries.{pointer_entry, memory_entry}
use Rattle.memo.specs.Memo.{Tells, Learned}
use Rattle.memo.proofs.Lines.{recalled}
use Rattle.meet_rules.specs.Rules.{type_rule, pair_rule, rule_for, struct_rule}
use Rattle.meet_rules.specs.declared.Rule.TheVariants.{Structs}
use Rattle.meet_fields.specs.Fields.{meet_fields}
use Rattle.meet.specs.Meet.{Many, meet_struct_of, follow_struct, meet_struct, follow, meet_within}
use Rattle.meet.specs.Met.{Met, MetStruct}
use Rattle.meet_types.specs.Remembered.{pair_key, Settled, Remembers, Remembered}
use Rattle.meet.proofs.Grows.{struct_grows}
use Rattle.meet_types.proofs.Names.{either}
use Rattle.meet_types.proofs.Settled.{meet_settled}

-- what is settled stays so
pub settled_stays : Stays Settled
settled_stays u v key h x s = record { is = λ w y. s.is w (later_then x y) }

-- nothing was appended
pub remembered_same : {old new memo : List ℕ} {used h : ℕ} → Remembers (take used (old ++ new)) memo → Remembered old new (interned h used) memo
remembered_same m = record { after = right_same Settled m; full = λ e z. let x : ◌≡◌ {A = ℕ} 0 1 = cc in absurd (omega arith) }

-- a part had no room
pub remembered_full : {old new' memo : List ℕ} {r : Option Interned} → r ≡ None → Remembered old new' r memo → Remembered old new' None memo
remembered_full e m = record { after = right_full; full = λ f z. m.full e z }

-- no word was lent to append to
pub still_old : (old now : List ℕ) (v : ℕ) → length old ≤ v → length now ≡ 0 → take v (old ++ now) ≡ old
still_old old [] v le z = ap (take v) (append-nil old) ∙ take_all v old le
still_old old (w ∷ ws) v le z = absurd (omega (arith, z))

-- entries were made, in words for which the memory is right
remembered_made : {old now memo : List ℕ} {v : ℕ} → Segments old now v → Remembers (take v (old ++ now)) memo → (g : Grown) → Extends (take v (old ++ now)) g.words → {now₂ : List ℕ} {o : Option Interned} → Ran v g (old ++ now) (old ++ now₂) o → Remembered old now₂ o memo
remembered_made {old} {now} {memo} {v} s m g x {now₂} {o} ran = record { after = right_made settled_stays s m g x ran; full = still }
  where
    still : o ≡ None → length now₂ ≡ 0 → Remembers old memo
    still e z =
        let kept = ran.full (overflowed v g (old ++ now) (old ++ now₂) o ran e) in
        let q : take v (old ++ now) ≡ old = sym kept ∙ still_old old now₂ v s.over z in
        rw q at m

pub remembered_entry : {old now memo : List ℕ} {v : ℕ} → Segments old now v → Remembers (take v (old ++ now)) memo → (e : List ℕ) {now₂ : List ℕ} {o : Option Interned} → Ran v (make (take v (old ++ now)) e) (old ++ now) (old ++ now₂) o → Remembered old now₂ o memo
remembered_entry {old} {now} {v = v} s m e ran = remembered_made s m (make (take v (old ++ now)) e) (make_extends (take v (old ++ now)) e) ran

pub remembered_pointer : {old now memo : List ℕ} {v : ℕ} → Segments old now v → Remembers (take v (old ++ now)) memo → (h nil : ℕ) {now₂ : List ℕ} {o : Option Interned} → Runs (λ w. make w (pointer_entry h nil w)) old now v now₂ o → Remembered old now₂ o memo
remembered_pointer {old} {now} {v = v} s m h nil ran = remembered_entry s m (pointer_entry h nil (take v (old ++ now))) ran

pub remembered_memory : {old now memo : List ℕ} {v : ℕ} → Segments old now v → Remembers (take v (old ++ now)) memo → (alias h : ℕ) {now₂ : List ℕ} {o : Option Interned} → Runs (λ w. make w (memory_entry alias h w)) old now v now₂ o → Remembered old now₂ o memo
remembered_memory {old} {now} {v = v} s m alias h ran = remembered_entry s m (memory_entry alias h (take v (old ++ now))) ran

-- a struct was made
pub remembered_fields : {old now memo : List ℕ} {v : ℕ} → Segments old now v → Remembers (take v (old ++ now)) memo → (a b : ℕ) (hs : List ℕ) {now₂ : List ℕ} {o : Option Interned} → Ran v (meet_fields a b hs (take v (old ++ now))) (old ++ now) (old ++ now₂) o → Remembered old now₂ o memo
remembered_fields {old} {now} {v = v} s m a b hs ran = let p : Many = record { words = take v (old ++ now); handles = hs } in remembered_made s m (meet_struct_of a b p) (struct_grows a b p) ran

-- ---- the meet of two structs or forward references is that of two types

both_structs : (a b j k m n : ℕ) → eqb a b ≡ false → (8 ≤ j) × (j ≤ 9) → (8 ≤ k) × (k ≤ 9) → rule_for a b j k m n ≡ Structs
unfolding rule_for pair_rule
both_structs a b j k m n e pj pk =
    ⊎_elim
    (λ (x : j ≡ 8). ⊎_elim (λ (y : k ≡ 8). rw (e, x, y)) (λ (y : k ≡ 9). rw (e, x, y)) (either k pk.0 pk.1))
    (λ (x : j ≡ 9). ⊎_elim (λ (y : k ≡ 8). rw (e, x, y)) (λ (y : k ≡ 9). rw (e, x, y)) (either k pk.0 pk.1))
    (either j pj.0 pj.1)

pub struct_type : (n : ℕ) (u : List ℕ) (a b : ℕ) → (8 ≤ kind_on u a) × (kind_on u a ≤ 9) → (8 ≤ kind_on u b) × (kind_on u b ≤ 9) → meet_within (suc n) u a b ≡ meet_struct (meet_within n) u a b
unfolding meet_within follow meet_struct follow_struct rule_for struct_rule
struct_type n u a b pa pb = go (eqb a b) refl
  where
    go : (t : Bool) → eqb a b ≡ t → follow (meet_within n) u a b (type_rule u a b) ≡ follow_struct (meet_within n) u a b (struct_rule u a b)
    go true e = rw e
    go false e = rw (both_structs a b (kind_on u a) (kind_on u b) (count_on u a) (count_on u b) e pa pb)

-- ---- a type's meet

module _ {old new : List ℕ} {used a b : ℕ} (rd : Ready old new used 1 11 a b) (key : ℕ) (ek : (key ≡ 0 → ⊥) → key ≡ pair_key a b) where
  abbrev u : List ℕ
  u = take used (old ++ new)

  small_b : b < 1048576
  small_b = omega (arith, rd.next, rd.within, rd.small)

  -- a line of the memory
  pub met_known : {memo : List ℕ} → Remembers u memo → {r : Option ℕ} → Tells memo key r → (h : ℕ) → r ≡ Some h → Met old new used a b new (interned h used)
  met_known {memo} m t h e = record {
    is = λ n la lb.
        let k = ek (t.line h e).1.some in
        rw ((recalled m t h e).is u (later_same u) a b small_b k n la lb) (grew_there {old = old} {new = new} h (grew_none rd.good rd.within));
  }

  -- an answer is settled once it is given
  met_settled : {new' : List ℕ} {r : Option Interned} → Met old new used a b new' r → (h v : ℕ) → r ≡ interned h v → (key ≡ 0 → ⊥) → Settled (take v (old ++ new')) key h
  met_settled {new'} {r} t h v e some = record {
    is = λ w x c d ld ec n lc l.
        let k = ek some in
        let qa : a ≡ c = omega (arith, small_b, k, ec) in
        let qb : b ≡ d = omega (arith, small_b, k, ec) in
        let la : a < n = omega arith in
        let lb : b < n = omega arith in
        let g = meet_within n u a b in
        let f = fitted used g (old ++ new) (old ++ new') r (t.is n la lb) h v e in
        let q = fit_front g (old ++ new) (old ++ new') h v f in
        let y : Later g.words w = rw q at x in
        let s : meet_within n w a b ≡ there w h = meet_settled n u a b 33 rd.good (part_below n la rd.first) (part_below n lb rd.second) w y ∙ ap (there w) (sym f.handle) in
        rw (← qa, ← qb) s;
  }

  -- and a line of the memory from then on
  pub met_noted : {new' memo : List ℕ} {r : Option Interned} → Met old new used a b new' r → Remembered old new' r memo → {memo' : List ℕ} {o : Option Interned} → o ≡ r → Learned memo key r memo' → Met old new used a b new' o × Remembered old new' o memo'
  met_noted {new'} {r = r} t m {memo'} e l =
      let n : Remembered old new' r memo' = record { after = right_learned Settled m.after l (met_settled t); full = λ f z. rw (l.full f) (m.full f z) } in
      rw e (t, n)

-- ---- a struct's meet

module _ {old new : List ℕ} {used a b : ℕ} (rd : Ready old new used 8 9 a b) where
  abbrev w : List ℕ
  w = take used (old ++ new)

  same : (n : ℕ) → meet_within (suc n) w a b ≡ meet_struct (meet_within n) w a b
  same n = struct_type n w a b (rd.first.least, rd.first.most) (rd.second.least, rd.second.most)

  as_type : {new' : List ℕ} {r : Option Interned} → MetStruct old new used a b new' r → Met old new used a b new' r
  as_type {new'} {r} t = record { is = go }
    where
      go : (n : ℕ) → a < n → b < n → Ran used (meet_within n (take used (old ++ new)) a b) (old ++ new) (old ++ new') r
      go zero h l = absurd (omega arith)
      go (suc n) h l = rw (same n) (t.is n (omega arith) (omega arith))

  as_struct : {new' : List ℕ} {r : Option Interned} → Met old new used a b new' r → MetStruct old new used a b new' r
  as_struct t = record { is = λ n la lb. rw (same n) at (t.is (suc n) (omega arith) (omega arith)) }

  wider : {h : ℕ} → Part w used 33 8 9 h → Part w used 33 1 11 h
  wider p = record { entry = p.entry; earlier = p.earlier; least = omega (arith, p.least); most = omega (arith, p.most); shallow = p.shallow }

  ready_types : Ready old new used 1 11 a b
  ready_types = record { over = rd.over; within = rd.within; small = rd.small; cut = rd.cut; near = rd.near; next = rd.next; good = rd.good; first = wider rd.first; second = wider rd.second }

  module _ (key : ℕ) (ek : key ≡ pair_key a b) where
    pub struct_known : {memo : List ℕ} → Remembers w memo → {r : Option ℕ} → Tells memo key r → (h : ℕ) → r ≡ Some h → MetStruct old new used a b new (interned h used)
    struct_known m t h e = as_struct (met_known ready_types key (λ some. ek) m t h e)

    pub struct_noted : {new' memo : List ℕ} {r : Option Interned} → MetStruct old new used a b new' r → Remembered old new' r memo → {memo' : List ℕ} {o : Option Interned} → o ≡ r → Learned memo key r memo' → MetStruct old new used a b new' o × Remembered old new' o memo'
    struct_noted t m e l = let both = met_noted ready_types key (λ some. ek) (as_type t) m e l in (as_struct both.0, both.1)
