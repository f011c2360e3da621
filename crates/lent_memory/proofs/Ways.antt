-- The ways through the operations: with a memory of their own, with an answer that is remembered, and with their part of the lent memory. Assumes nothing.
use mathlib.Core.Path.{◌≡◌, refl, sym, ◌∙◌}
use mathlib.Core.List.{List, ◌++◌}
use Prim.Native.Nat.{ℕ, suc, ◌+◌, ◌-◌, ◌*◌, ◌/◌, ◌≤◌, ◌<◌, max}
use native.Mathlib.Nat.{mul-le-mul_right}
use native.Mathlib.Omega.{arith}
use borrow.Rule.Slice.PartMut.{put_mid}
use lib.ListN.{length, take, drop, length-append}
use lib.Seq.{length-take-le}
use Rattle.words.specs.Ran.{Runs}
use Rattle.std.specs.Prelude.{Option, Some}
use Rattle.words.specs.Ran.{interned}
use Rattle.words.specs.declared.Interned.{Interned}
use Rattle.words.proofs.Extend.{Extends, ext_by}
use Rattle.parts.specs.Parts.{Ready, ReadyOne}
use Rattle.parts.proofs.Good.{part_weak, ready_segments, one_segments}
use Rattle.memo.specs.Memo.{Lines, Tells, Learned}
use Rattle.later.specs.Right.{RightAfter}
use Rattle.meet.specs.Meet.{meet_of}
use Rattle.meet.specs.Met.{Met}
use Rattle.meet_types.specs.Remembered.{Remembers as RemembersMeets, Settled as SettledMeet}
use Rattle.meet.proofs.Grows.{meet_grows}
use Rattle.walk_rules.specs.declared.Walk.{Walk}
use Rattle.walk_rules.specs.declared.Walk.TheVariants.{Dual, Glb, Lub}
use Rattle.walk.specs.Walked.{Walked}
use Rattle.walk.specs.Walk.{walk_of}
use Rattle.walk.specs.Remembered.{Remembers as RemembersWalks, Settled as SettledWalk}
use Rattle.walk.proofs.Grows.{walk_grows}
use Rattle.join.specs.Join.{join_of}
use Rattle.join.specs.Memory.{Remembers as RemembersJoin, Remembered as RememberedJoin}
use Rattle.join.proofs.Adds.{join_adds}
use Rattle.finals.specs.Known.{Knows}
use Rattle.finals.proofs.Knows.{knows_blank}
use Rattle.make_ro.specs.ReadOnly.{make_ro_of}
use Rattle.make_ro.specs.MadeRo.{MadeRo}
use Rattle.make_ro.specs.Remembered.{Settled as SettledRo, Remembered}
use Rattle.make_ro.proofs.Grows.{make_ro_grows}
use Rattle.make_ro.proofs.Recall.{made_known, made_noted}
use Rattle.lent_memory.specs.Memory.{part, Right, RightThen}
use Rattle.memory_steps.specs.Steps.{part_of}
use Rattle.lent_memory.proofs.Parts.{Put, put_long, lent, put, lent_first, lent_second, put_front}
use Rattle.lent_memory.proofs.Laws.{right_ros, right_finals, then_kept, then_walks, then_meets, then_ros, then_both}

-- ---- the part of a walk

walk_part : (walk : Walk) (p : ℕ) → p ≡ part_of walk → p < 6
unfolding part_of
walk_part Dual p is = omega arith
walk_part Glb p is = omega arith
walk_part Lub p is = omega arith

-- it ends within the memory
pub walk_end : (memory : List ℕ) (walk : Walk) (p : ℕ) → p ≡ part_of walk → p * (length memory / 6) + length memory / 6 ≤ length memory
walk_end memory walk p is =
    let m : suc p * (length memory / 6) ≤ 6 * (length memory / 6) = mul-le-mul_right (length memory / 6) (walk_part walk p is) in
    omega arith

-- ---- the parts as they are lent

module _ {u memory : List ℕ} (right : Right u memory) where
  abbrev n : ℕ
  n = length memory / 6

  -- the answers of a walk
  walks : (walk : Walk) → RemembersWalks walk u (part (part_of walk) memory)
  unfolding part_of
  walks Dual = right.duals
  walks Glb = right.glbs
  walks Lub = right.lubs

  pub walks_lent : (walk : Walk) (p : ℕ) → p ≡ part_of walk → RemembersWalks walk u (take (p * n + n - p * n) (drop (p * n) memory))
  walks_lent walk p is = rw (lent p (walk_part walk p is) memory (p * n) (p * n + n) (omega arith) (omega arith), is) (walks walk)

  pub meets_lent : RemembersMeets u (take (2 * n - n) (drop n memory))
  meets_lent = rw (lent 1 (omega arith) memory n (2 * n) (omega arith) (omega arith)) right.meets

  pub both_lent : RemembersJoin u (take (2 * n) memory)
  both_lent = record { duals = rw (lent_first memory) right.duals; meets = rw (lent_second memory) right.meets }

  pub ros_lent : Lines (SettledRo u) (take (5 * n - 4 * n) (drop (4 * n) memory))
  ros_lent = rw (lent 4 (omega arith) memory (4 * n) (5 * n) (omega arith) (omega arith)) right.ros

  pub finals_lent : Knows u (take (6 * n - 5 * n) (drop (5 * n) memory))
  finals_lent = rw (lent 5 (omega arith) memory (5 * n) (6 * n) (omega arith) (omega arith)) right.finals

  -- is_final
  pub final_lent : {d : List ℕ} → Knows u d → length d ≡ length (take (6 * n - 5 * n) (drop (5 * n) memory)) → Right u (put_mid (5 * n) (6 * n - 5 * n) memory d)
  final_lent {d} k long = right_finals right (put 5 (omega arith) memory (5 * n) (6 * n) (omega arith) (omega arith) d long) k

-- ---- meet

module _ {old new memory : List ℕ} {used a b : ℕ} (rd : Ready old new used 1 11 a b) (right : Right (take used (old ++ new)) memory) {new' : List ℕ} {r : Option Interned} (met : Met old new used a b new' r) where
  met_runs : Runs (λ u. meet_of u a b) old new used new' r
  met_runs = met.is (suc (max a b)) (omega arith) (omega arith)

  met_kept : RightThen old new' r memory
  met_kept =
      let u = take used (old ++ new) in
      then_kept (ready_segments rd) right (meet_of u a b) (meet_grows (suc (max a b)) u a b) new' met_runs

  pub met_own : Runs (λ u. meet_of u a b) old new used new' r × RightThen old new' r memory
  met_own = (met_runs, met_kept)

  pub met_lent : {d : List ℕ} → RightAfter SettledMeet old new' r d → length d ≡ length (take (2 * (length memory / 6) - length memory / 6) (drop (length memory / 6) memory))
      → Runs (λ u. meet_of u a b) old new used new' r × RightThen old new' r (put_mid (length memory / 6) (2 * (length memory / 6) - length memory / 6) memory d)
  met_lent {d} m long = (met_runs, then_meets met_kept (put 1 (omega arith) memory (length memory / 6) (2 * (length memory / 6)) (omega arith) (omega arith) d long) m)

-- ---- join

module _ {old new memory : List ℕ} {used a b : ℕ} (rd : Ready old new used 1 11 a b) (right : Right (take used (old ++ new)) memory) (new' : List ℕ) {r : Option Interned} (runs : Runs (λ u. join_of u a b) old new used new' r) where
  join_grows : Extends (take used (old ++ new)) (join_of (take used (old ++ new)) a b).words
  join_grows =
      let u = take used (old ++ new) in
      let long : length u ≡ used = length-take-le used (old ++ new) (omega (arith, rd.within, length-append old new)) in
      let adds = join_adds u a b rd.good (part_weak (length u) 33 (omega arith) (omega arith) rd.first) (part_weak (length u) 33 (omega arith) (omega arith) rd.second) in
      rw adds.is (ext_by u adds.more)

  joined_kept : RightThen old new' r memory
  joined_kept = then_kept (ready_segments rd) right (join_of (take used (old ++ new)) a b) join_grows new' runs

  pub joined_own : Runs (λ u. join_of u a b) old new used new' r × RightThen old new' r memory
  joined_own = (runs, joined_kept)

  pub joined_lent : {d : List ℕ} → RememberedJoin old new' r d → length d ≡ length (take (2 * (length memory / 6)) memory)
      → Runs (λ u. join_of u a b) old new used new' r × RightThen old new' r (d ++ drop (2 * (length memory / 6)) memory)
  joined_lent {d} m long = (runs, then_both joined_kept (put_front memory d long) m)

-- ---- the operations on one type

module _ {old new memory : List ℕ} {used a : ℕ} (rd : ReadyOne old new used a) (right : Right (take used (old ++ new)) memory) where
  abbrev k : ℕ
  k = length memory / 6

  module _ {op : Walk} {new' : List ℕ} {r : Option Interned} (walked : Walked op old new used a new' r) where
    walked_runs : Runs (λ u. walk_of op u a) old new used new' r
    walked_runs = walked.is (suc a) (omega arith)

    walked_kept : RightThen old new' r memory
    walked_kept =
        let u = take used (old ++ new) in
        then_kept (one_segments rd) right (walk_of op u a) (walk_grows op (suc a) u a) new' walked_runs

    pub walked_own : Runs (λ u. walk_of op u a) old new used new' r × RightThen old new' r memory
    walked_own = (walked_runs, walked_kept)

    pub walked_lent : {d : List ℕ} → RightAfter (SettledWalk op) old new' r d → (p : ℕ) → p ≡ part_of op → length d ≡ length (take (p * k + k - p * k) (drop (p * k) memory))
        → Runs (λ u. walk_of op u a) old new used new' r × RightThen old new' r (put_mid (p * k) (p * k + k - p * k) memory d)
    walked_lent {d} m p is long =
        let q = put p (walk_part op p is) memory (p * k) (p * k + k) (omega arith) (omega arith) d long in
        let q₁ : Put (part_of op) memory d (put_mid (p * k) (p * k + k - p * k) memory d) = rw (← is) q in
        (walked_runs, then_walks walked_kept op q₁ m)

  -- make_ro
  module _ {new' : List ℕ} {r : Option Interned} (made : MadeRo old new used a new' r) where
    ro_runs : Runs (λ u. make_ro_of u a) old new used new' r
    ro_runs = made.is (suc a) (omega arith)

    ro_kept : RightThen old new' r memory
    ro_kept =
        let u = take used (old ++ new) in
        then_kept (one_segments rd) right (make_ro_of u a) (make_ro_grows (suc a) u a) new' ro_runs

    pub ro_own : Runs (λ u. make_ro_of u a) old new used new' r × RightThen old new' r memory
    ro_own = (ro_runs, ro_kept)

    pub ro_lent : {d : List ℕ} → RightAfter SettledRo old new' r d → length d ≡ length (take (5 * k - 4 * k) (drop (4 * k) memory))
        → Runs (λ u. make_ro_of u a) old new used new' r × RightThen old new' r (put_mid (4 * k) (5 * k - 4 * k) memory d)
    ro_lent {d} m long = (ro_runs, then_ros ro_kept (put 4 (omega arith) memory (4 * k) (5 * k) (omega arith) (omega arith) d long) m)

    -- with a memory of its own and the lent set, and the answer noted
    pub ro_large : {d : List ℕ} → ((h v : ℕ) → r ≡ interned h v → Knows (take v (old ++ new')) d) → length d ≡ length (take (6 * k - 5 * k) (drop (5 * k) memory))
        → {lines : List ℕ} → Learned (take (5 * k - 4 * k) (drop (4 * k) (put_mid (5 * k) (6 * k - 5 * k) memory d))) a r lines
        → length lines ≡ length (take (5 * k - 4 * k) (drop (4 * k) (put_mid (5 * k) (6 * k - 5 * k) memory d)))
        → (o : Option Interned) → o ≡ r → Runs (λ u. make_ro_of u a) old new used new' o × RightThen old new' o (put_mid (4 * k) (5 * k - 4 * k) (put_mid (5 * k) (6 * k - 5 * k) memory d) lines)
    ro_large {d} knows long {lines} learned same o is =
        let m = put_mid (5 * k) (6 * k - 5 * k) memory d in
        let n : length m ≡ length memory = put_long memory d (5 * k) (6 * k) (omega arith) (omega arith) long in
        let five = put 5 (omega arith) memory (5 * k) (6 * k) (omega arith) (omega arith) d long in
        let four = put 4 (omega arith) m (4 * k) (5 * k) (omega (arith, n)) (omega (arith, n)) lines same in
        let there = lent 4 (omega arith) m (4 * k) (5 * k) (omega (arith, n)) (omega (arith, n)) in
        let right₁ : (h v : ℕ) → r ≡ interned h v → Right (take v (old ++ new')) m = λ h v e. right_finals (ro_kept.is h v e) five (knows h v e) in
        let known : Remembered old new' r (take (5 * k - 4 * k) (drop (4 * k) m)) d = record { is = λ h v e. record { lines = rw there (right₁ h v e).ros; finals = knows h v e } } in
        let got = made_noted rd (λ some. refl) made known learned o is in
        (got.0.is (suc a) (omega arith), record { is = λ h v e. right_ros (right₁ h v (sym is ∙ e)) four (got.1.is h v e).lines })

  -- an answer that is remembered
  pub ro_known : {line : Option ℕ} → Tells (take (5 * k - 4 * k) (drop (4 * k) memory)) a line → (h : ℕ) → line ≡ Some h → Runs (λ u. make_ro_of u a) old new used new (interned h used) × RightThen old new (interned h used) memory
  ro_known t h e =
      let u = take used (old ++ new) in
      ro_own (made_known rd (λ some. refl) (record { lines = ros_lent right; finals = knows_blank u 0 }) t h e).0
