-- One operation after another, where the second takes the first's answer; and the steps of join. Assumes nothing.
use mathlib.Core.Path.{◌≡◌, refl, sym, ap}
use mathlib.Core.Bool.{true}
use mathlib.Core.List.{List, ◌++◌}
use Prim.Native.Nat.{ℕ, suc, ◌+◌, ◌*◌, ◌-◌, ◌/◌, ◌≤◌, max}
use native.Mathlib.Omega.{arith}
use borrow.Author.Tests.{eq-eqb, ne_eqb}
use lib.ListN.{length, take, drop, length-append}
use lib.Seq.{length-take-le}
use borrow.Rule.Slice.PartMut.{put_mid}
use Rattle.words.specs.Words.{fills}
use Rattle.words.specs.Made.{Grown}
use Rattle.words.specs.Ran.{Ran, Runs}
use Rattle.std.specs.Prelude.{Option, None}
use Rattle.words.specs.Ran.{interned}
use Rattle.words.specs.declared.Interned.{Interned}
use Rattle.words.proofs.Extend.{Extends, ext_then}
use Rattle.index.specs.Covers.{Covers}
use Rattle.parts.specs.Parts.{Good, Part, Ready, ReadyOne}
use Rattle.parts.proofs.Good.{part_weak, part_below, good_adds, part_adds, one_segments, Answers}
use Rattle.meet.specs.Meet.{meet_of}
use Rattle.meet.specs.Met.{Met}
use Rattle.meet.proofs.Grows.{meet_grows}
use Rattle.meet.proofs.Nice.{meet_nice}
use Rattle.parts.proofs.Grew.{Grew, grew_none, grew_there, grew_long, grew_up, grew_high, grew_words, grew_more, grew_stop, then_made, grew_covers}
use Rattle.walk_rules.specs.declared.Walk.TheVariants.{Dual}
use Rattle.walk.specs.Walked.{Walked}
use Rattle.walk.specs.Walk.{dual_of}
use Rattle.walk.proofs.Grows.{walk_grows}
use Rattle.walk.proofs.Nice.{walk_nice}
use Rattle.later.proofs.Later.{later_adds}
use Rattle.later.proofs.Right.{right_made}
use Rattle.meet_types.specs.Remembered.{Remembered as RememberedMeets}
use Rattle.meet_types.proofs.Recall.{settled_stays as meets-stay}
use Rattle.walk.specs.Remembered.{Remembers as RemembersWalks, Remembered as RememberedWalks}
use Rattle.join.specs.Join.{dual_of_meet, join_with, join_of}
use Rattle.join.specs.Memory.{Remembers, Remembered}
use Rattle.join.proofs.Halves.{half_meets, lent_duals, duals_long, duals_back, duals_left, meets_length, meets_back, remembers_later}

-- ---- growth

pub dual_meet_grows : (u : List ℕ) (a b : ℕ) → Extends u (dual_of_meet u a b).words
dual_meet_grows u a b =
    let m = meet_of u a b in
    ext_then u m.words _ (meet_grows (suc (max a b)) u a b) (walk_grows Dual (suc m.handle) m.words m.handle)

pub with_grows : (u : List ℕ) (a b : ℕ) → Extends u (join_with u a b).words
with_grows u a b =
    let d = dual_of u b in
    ext_then u d.words _ (walk_grows Dual (suc b) u b) (dual_meet_grows d.words a d.handle)

-- ---- two steps

-- the first operation gives g₁ of the used words, and left the answer m and the words `now`
record First (old new : List ℕ) (used : ℕ) (g₁ : Grown) (now : List ℕ) (m : Option Interned) : Type 0 where
  pub good : Good (take used (old ++ new))
  pub within : used ≤ length old + length new
  pub over : length old ≤ used
  pub small : length old + length new ≤ 1048576
  pub cut : fills 0 (drop 1 old) ≡ true
  pub grows : Extends (take used (old ++ new)) g₁.words
  pub res : Answers (take used (old ++ new)) 33 1 11 g₁
  pub ran : Ran used g₁ (old ++ new) (old ++ now) m

module _ {old new : List ℕ} {used : ℕ} {g₁ : Grown} {now : List ℕ} {m : Option Interned} (F : First old new used g₁ now m) where
  first : Grew old new used new used
  first = grew_none F.good F.within

  step_full : m ≡ None → (g₂ : Grown) → Extends g₁.words g₂.words → Ran used g₂ (old ++ new) (old ++ now) None
  step_full f g₂ x = grew_stop first g₁ now m F.grows F.ran f g₂ x

  module _ (h v : ℕ) (f : m ≡ interned h v) where
    on : Grew old new used now v
    on = grew_more first g₁ now m F.grows F.ran h v f F.res.adds

    are : (h ≡ g₁.handle) × (take v (old ++ now) ≡ g₁.words)
    are = grew_words first g₁ now m F.grows F.ran h v f

    step_made : (op : List ℕ → ℕ → Grown) → ((w : List ℕ) (k : ℕ) → Extends w (op w k).words) → (now₂ : List ℕ) (o : Option Interned) → Ran v (op (take v (old ++ now)) h) (old ++ now) (old ++ now₂) o → Ran used (op g₁.words g₁.handle) (old ++ new) (old ++ now₂) o
    step_made op op-grows now₂ o l = then_made first g₁ now m F.grows F.ran h v f on op op-grows now₂ o l

    -- the answer, and an operand of the first, in the words that grew
    new_long : v ≡ length g₁.words
    new_long = let n = ap length are.1 in omega (arith, length-take-le v (old ++ now) (omega (arith, grew_high on, grew_long on, length-append old now)))

    answer_part : Part (take v (old ++ now)) v 33 1 11 h
    answer_part = rw (are.1, are.0) (part_weak v 33 (omega (arith, new_long)) (omega arith) F.res.part)

    old_part : {x : ℕ} → Part (take used (old ++ new)) used 33 1 11 x → Part (take v (old ++ now)) v 33 1 11 x
    old_part p = rw are.1 (part_weak v 33 (grew_up on) (omega arith) (part_adds F.good F.res.adds p))

    -- a store for the second
    grown_ready : ReadyOne old now v h
    grown_ready = record {
      over = omega (arith, F.over, grew_up on);
      within = omega (arith, grew_high on, grew_long on);
      small = omega (arith, F.small, grew_long on);
      cut = F.cut;
      near = answer_part.earlier;
      good = rw are.1 (good_adds F.good F.res.adds);
      first = answer_part;
    }

    -- and a memory for it: the half that the first did not touch stays right
    grown_remembers : {memory : List ℕ} → Remembers (take used (old ++ new)) memory → Remembers (take v (old ++ now)) memory
    grown_remembers m = rw are.1 (remembers_later (later_adds F.good F.res.adds) m)

    -- where the first was a dual, d came back in the place of the first half
    grown_duals : {memory d : List ℕ} → Remembers (take used (old ++ new)) memory → length d ≡ length (take (length memory / 2) memory) → RememberedWalks Dual old now m d → Remembers (take v (old ++ now)) (d ++ drop (length memory / 2) memory)
    grown_duals {memory} r same l = duals_back memory (length memory / 2) refl _ same (l.is h v f) (grown_remembers r).meets

    grown_covers : {index : List ℕ} → Covers (take used (old ++ new)) index → Covers (take v (old ++ now)) index
    grown_covers = grew_covers on

    grown_two : (x y : ℕ) → Part (take v (old ++ now)) v 33 1 11 x → Part (take v (old ++ now)) v 33 1 11 y → Ready old now v 1 11 x y
    grown_two x y px py = record {
      over = grown_ready.over;
      within = grown_ready.within;
      small = grown_ready.small;
      cut = F.cut;
      near = px.earlier;
      next = py.earlier;
      good = grown_ready.good;
      first = px;
      second = py;
    }

-- ---- the memory, once d came back from the meet, in the place of the second half

module _ (memory d : List ℕ) (same : length d ≡ length (take (2 * (length memory / 2) - length memory / 2) (drop (length memory / 2) memory))) where
  abbrev met_memory : List ℕ
  met_memory = put_mid (length memory / 2) (2 * (length memory / 2) - length memory / 2) memory d

  meet_half : length memory / 2 ≡ length met_memory / 2
  meet_half = ap (λ (n : ℕ). n / 2) (sym (meets_length memory (length memory / 2) refl d same))

  pub meet_long : length memory / 2 ≡ length (take (length memory / 2) met_memory)
  meet_long = duals_long met_memory (length memory / 2) meet_half

-- ---- the steps of join

module _ (old new : List ℕ) (used a b : ℕ) (rd : Ready old new used 1 11 a b) where
  abbrev u : List ℕ
  u = take used (old ++ new)

  -- the dual of one of them, made first
  dual_answers : (x : ℕ) → Part u used 33 1 11 x → Answers u 33 1 11 (dual_of u x)
  dual_answers x p = (walk_nice Dual (suc x)).types u x 33 rd.good (part_below (suc x) (omega arith) p)

  one : (g₁ : Grown) (now : List ℕ) (m : Option Interned) → Extends u g₁.words → Answers u 33 1 11 g₁ → Ran used g₁ (old ++ new) (old ++ now) m → First old new used g₁ now m
  one g₁ now m grows res ran = record { good = rd.good; within = rd.within; over = rd.over; small = rd.small; cut = rd.cut; grows = grows; res = res; ran = ran }

  -- meet, then dual
  module _ (now : List ℕ) (m : Option Interned) (met : Met old new used a b now m) where
    met_first : First old new used (meet_of u a b) now m
    met_first =
        let k = suc (max a b) in
        one (meet_of u a b) now m (meet_grows k u a b) (meet_nice k u a b 33 rd.good (part_below k (omega arith) rd.first) (part_below k (omega arith) rd.second)) (met.is k (omega arith) (omega arith))

    pub meet_full : m ≡ None → Runs (λ w. dual_of_meet w a b) old new used now None
    meet_full f =
        let g = meet_of u a b in
        step_full met_first f (dual_of g.words g.handle) (walk_grows Dual (suc g.handle) g.words g.handle)

    module _ (h v : ℕ) (f : m ≡ interned h v) where
      pub meet_ready : ReadyOne old now v h
      meet_ready = grown_ready met_first h v f

      pub meet_covers : {index : List ℕ} → Covers u index → Covers (take v (old ++ now)) index
      meet_covers = grown_covers met_first h v f

      pub meet_dualled : (now₂ : List ℕ) (o : Option Interned) → Walked Dual old now v h now₂ o → Runs (λ w. dual_of_meet w a b) old new used now₂ o
      meet_dualled now₂ o t =
          step_made met_first h v f
          dual_of (λ w k. walk_grows Dual (suc k) w k) now₂ o (t.is (suc h) (omega arith))

      -- the memory: d came back from the meet, in the place of the second half
      module _ {memory d : List ℕ} (r : Remembers u memory) (same : length d ≡ length (take (2 * (length memory / 2) - length memory / 2) (drop (length memory / 2) memory))) (l : RememberedMeets old now m d) where
        abbrev k : ℕ
        k = length memory / 2

        abbrev memory₁ : List ℕ
        memory₁ = met_memory memory d same

        met_remembers : Remembers (take v (old ++ now)) memory₁
        met_remembers = meets_back memory k refl d same (grown_remembers met_first h v f r).duals (l.after.is h v f)

        -- the first half of it is what the dual is lent
        pub meet_remembers : RemembersWalks Dual (take v (old ++ now)) (take k memory₁)
        meet_remembers = lent_duals memory₁ k (meet_half memory d same) met_remembers

        -- and d₂ came back from the dual, in the place of that half
        pub meet_remembered : {d₂ now₂ : List ℕ} {o : Option Interned} → length d₂ ≡ length (take k memory₁) → Walked Dual old now v h now₂ o → RememberedWalks Dual old now₂ o d₂ → Remembered old now₂ o (d₂ ++ drop k memory₁)
        meet_remembered {d₂} {now₂} {o} same₂ t ds =
            let w = take v (old ++ now) in
            duals_left memory₁ k (meet_half memory d same) d₂ same₂ ds (right_made meets-stay (one_segments meet_ready) (half_meets memory₁ k (meet_half memory d same) met_remembers) (dual_of w h) (walk_grows Dual (suc h) w h) (t.is (suc h) (omega arith)))

  -- the second dual, then those
  module _ (now : List ℕ) (m : Option Interned) (t : Walked Dual old new used b now m) where
    second : First old new used (dual_of u b) now m
    second = one (dual_of u b) now m (walk_grows Dual (suc b) u b) (dual_answers b rd.second) (t.is (suc b) (omega arith))

    pub with_full : m ≡ None → Runs (λ w. join_with w a b) old new used now None
    with_full f =
        let g = dual_of u b in
        step_full second f (dual_of_meet g.words a g.handle) (dual_meet_grows g.words a g.handle)

    module _ (h v : ℕ) (f : m ≡ interned h v) where
      pub with_ready : Ready old now v 1 11 a h
      with_ready =
          grown_two second h v f a h
          (old_part second h v f rd.first)
          (answer_part second h v f)

      pub with_covers : {index : List ℕ} → Covers u index → Covers (take v (old ++ now)) index
      with_covers = grown_covers second h v f

      pub with_remembers : {memory d : List ℕ} → Remembers u memory → length d ≡ length (take (length memory / 2) memory) → RememberedWalks Dual old now m d → Remembers (take v (old ++ now)) (d ++ drop (length memory / 2) memory)
      with_remembers = grown_duals second h v f

      pub with_made : (now₂ : List ℕ) (o : Option Interned) → Runs (λ w. dual_of_meet w a h) old now v now₂ o → Runs (λ w. join_with w a b) old new used now₂ o
      with_made now₂ o l =
          step_made second h v f
          (λ w k. dual_of_meet w a k) (λ w k. dual_meet_grows w a k) now₂ o l

  -- "itself for one handle"
  pub join_same : a ≡ b → Runs (λ w. join_of w a b) old new used new (interned a used)
  join_same e = let w : Grew old new used new used = grew_none rd.good rd.within in rw (eq-eqb a b e) (grew_there a w)

  -- the first dual, then those
  module _ (ne : a ≡ b → ⊥) (now : List ℕ) (m : Option Interned) (t : Walked Dual old new used a now m) where
    former : First old new used (dual_of u a) now m
    former = one (dual_of u a) now m (walk_grows Dual (suc a) u a) (dual_answers a rd.first) (t.is (suc a) (omega arith))

    pub join_full : m ≡ None → Runs (λ w. join_of w a b) old new used now None
    join_full f =
        let g = dual_of u a in
        rw (ne_eqb a b ne) (step_full former f (join_with g.words g.handle b) (with_grows g.words g.handle b))

    module _ (h v : ℕ) (f : m ≡ interned h v) where
      pub join_ready : Ready old now v 1 11 h b
      join_ready =
          grown_two former h v f h b
          (answer_part former h v f)
          (old_part former h v f rd.second)

      pub join_covers : {index : List ℕ} → Covers u index → Covers (take v (old ++ now)) index
      join_covers = grown_covers former h v f

      pub join_remembers : {memory d : List ℕ} → Remembers u memory → length d ≡ length (take (length memory / 2) memory) → RememberedWalks Dual old now m d → Remembers (take v (old ++ now)) (d ++ drop (length memory / 2) memory)
      join_remembers = grown_duals former h v f

      pub join_made : (now₂ : List ℕ) (o : Option Interned) → Runs (λ w. join_with w h b) old now v now₂ o → Runs (λ w. join_of w a b) old new used now₂ o
      join_made now₂ o l =
          rw (ne_eqb a b ne) (step_made former h v f
          (λ w k. join_with w k b) (λ w k. with_grows w k b) now₂ o l)
