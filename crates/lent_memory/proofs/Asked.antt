-- isa: what meet leaves of the used words alone, and of the memory. Assumes nothing.
use mathlib.Core.Path.{◌≡◌, refl, sym, ap, ◌∙◌}
use mathlib.Core.Bool.{Bool, false}
use mathlib.Core.Logic.{⊎_elim}
use mathlib.Core.List.{List, [], ◌++◌, append-nil}
use Prim.Native.Nat.{ℕ, suc, ◌-◌, ◌+◌, ◌*◌, ◌/◌, ◌≤◌, max}
use native.Mathlib.Omega.{arith}
use borrow.Author.Tests.{ne_eqb}
use borrow.Rule.Slice.PartMut.{put_mid}
use lib.Dec.{eqb}
use lib.ListN.{length, take, drop}
use lib.Seq.{length-take-le, take-take}
use Rattle.words.specs.Made.{Grown}
use Rattle.words.specs.Ran.{Ran}
use Rattle.std.specs.Prelude.{Option, Some, None}
use Rattle.words.specs.Ran.{interned}
use Rattle.words.specs.declared.Interned.{Interned}
use Rattle.words.proofs.Extend.{ext_length}
use Rattle.words.proofs.Room.{fitted, overflowed}
use Rattle.index.specs.Covers.{Covers}
use Rattle.parts.specs.Parts.{Ready}
use Rattle.parts.proofs.Good.{part_below}
use Rattle.meet.specs.Meet.{meet_of, isa_of}
use Rattle.meet.specs.Met.{Met}
use Rattle.meet_types.specs.Remembered.{Remembered}
use Rattle.meet.proofs.Grows.{meet_grows}
use Rattle.meet.proofs.Nice.{meet_nice}
use Rattle.meet_types.proofs.Recall.{still_old}
use Rattle.lent_memory.specs.Memory.{Right}
use Rattle.memory_steps.specs.Steps.{second}
use Rattle.lent_memory.proofs.Parts.{put}
use Rattle.lent_memory.proofs.Laws.{right_meets}
use Rattle.lent_memory.proofs.Ways.{met_lent}

module _ {ws : List ℕ} {used a b : ℕ} (rd : Ready [] ws used 1 11 a b) where
  abbrev u : List ℕ
  u = take used ws

  pub used_words_is : used ≡ length u
  used_words_is = sym (length-take-le used ws (omega (arith, rd.within)))

  -- the used words alone are lent, to be read
  read : take used (u ++ []) ≡ u
  read = ap (take used) (append-nil u) ∙ take-take used used ws (omega arith)

  pub ask_ready : Ready u [] used 1 11 a b
  ask_ready = record {
    over = omega (arith, used_words_is);
    within = omega (arith, used_words_is);
    small = omega (arith, used_words_is, rd.within, rd.small);
    cut = rd.good.sound.full;
    near = rd.near;
    next = rd.next;
    good = rw read rd.good;
    first = rw read rd.first;
    second = rw read rd.second;
  }

  pub ask_covers : {index : List ℕ} → Covers u index → Covers (take used (u ++ [])) index
  ask_covers x = rw read x

  -- what meet requires of the memory
  pub ask_right : {memory : List ℕ} → Right u memory → Right (take used (u ++ [])) memory
  ask_right x = rw read x

  abbrev g : Grown
  g = meet_of u a b

  module _ (new' : List ℕ) (r : Option Interned) (met : Met u [] used a b new' r) where
    ran : Ran used g (u ++ []) (u ++ new') r
    ran = let m = met.is (suc (max a b)) (omega arith) (omega arith) in rw read at m

    pub isa_at : (h v : ℕ) → r ≡ interned h v → eqb h b ≡ isa_of u a b
    isa_at h v e = ap (λ (k : ℕ). eqb k b) (fitted used g (u ++ []) (u ++ new') r ran h v e).handle

    -- an answer that would have to be appended is no old handle
    pub isa_full : r ≡ None → false ≡ isa_of u a b
    isa_full e =
        let more = overflowed used g (u ++ []) (u ++ new') r ran e in
        let n = ap length (append-nil u) in
        let res = meet_nice (suc (max a b)) u a b 33 rd.good (part_below (suc (max a b)) (omega arith) rd.first) (part_below (suc (max a b)) (omega arith) rd.second) in
        ⊎_elim
        (λ (same : g.words ≡ u). absurd (omega (arith, ap length same)))
        (λ (late : length u ≤ g.handle). let ne : g.handle ≡ b → ⊥ = (λ z. absurd (omega (arith, rd.next, used_words_is))) in sym (ne_eqb g.handle b ne))
        res.new

    -- the answer is read off what meet leaves
    pub isa_second : (x : Bool) → x ≡ second r b → x ≡ isa_of u a b
    unfolding second
    isa_second x is = go r refl is
      where
        go : (s : Option Interned) → r ≡ s → x ≡ second s b → x ≡ isa_of u a b
        go (Some m) e q = q ∙ isa_at m.handle m.used e
        go None e q = q ∙ isa_full e

    -- and the memory, in which d came back from meet, is right for the words as they were
    pub isa_right : length new' ≡ 0 → {memory : List ℕ} → Right u memory → {d : List ℕ} → Remembered u new' r d → length d ≡ length (take (2 * (length memory / 6) - length memory / 6) (drop (length memory / 6) memory))
        → Right u (put_mid (length memory / 6) (2 * (length memory / 6) - length memory / 6) memory d)
    isa_right z {memory} right {d} m long = go r refl
      where
        go : (s : Option Interned) → r ≡ s → Right u (put_mid (length memory / 6) (2 * (length memory / 6) - length memory / 6) memory d)
        go (Some s) e =
            let h = s.handle in
            let v = s.used in
            let there = (met_lent ask_ready (ask_right right) met m.after long).1.is h v e in
            let f = fitted used g (u ++ []) (u ++ new') r ran h v e in
            let more = ext_length u g.words (meet_grows (suc (max a b)) u a b) in
            let q : take v (u ++ new') ≡ u = still_old u new' v (omega (arith, f.end)) z in
            rw q at there
        go None e = right_meets right (put 1 (omega arith) memory (length memory / 6) (2 * (length memory / 6)) (omega arith) (omega arith) d long) (m.full e z)
