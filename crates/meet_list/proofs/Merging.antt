-- On the way through a list: what was merged so far, and that the rest of the merge is the whole. Assumes nothing.
use mathlib.Core.Path.{◌≡◌, refl, ◌∙◌}
use mathlib.Core.List.{List, [], ◌∷◌, ◌++◌}
use Prim.Native.Nat.{ℕ, suc, ◌+◌, ◌≤◌, ◌<◌, max}
use native.Mathlib.Omega.{arith}
use lib.ListN.{length, take, drop, get_or, length-append, drop_of_length-le}
use lib.Seq.{length-take-le, drop-cons}
use Rattle.words.specs.Made.{Grown}
use Rattle.words.specs.Ran.{Runs}
use Rattle.std.specs.Prelude.{Option, None}
use Rattle.words.specs.Ran.{interned}
use Rattle.words.specs.declared.Interned.{Interned}
use Rattle.words.proofs.Extend.{Extends}
use Rattle.words.proofs.Room.{fit, same_interned}
use Rattle.index.specs.Covers.{Covers}
use Rattle.index.proofs.Keep.{covers_more}
use Rattle.parts.specs.Parts.{Good, Part, All, Ready}
use Rattle.parts.proofs.Parts.{all_map}
use Rattle.parts.proofs.Good.{part_weak, good_adds}
use Rattle.parts.proofs.Grew.{Grew, grew_none, grew_long, grew_up, grew_high, grew_more, grew_words, grew_stop}
use Rattle.meet.specs.Meet.{meet_of}
use Rattle.meet.proofs.Grows.{meet_grows}
use Rattle.join.proofs.Adds.{TypeIn, Given, later, met}
use Rattle.lent_memory.specs.Memory.{Right, RightThen}
use Rattle.every_call.specs.Cleared.{Cleared}
use Rattle.every_call.specs.MeetList.{merge_from, meet_list_of, meet_list_rows}
use Rattle.every_call.proofs.MeetList.{merge_grows, top_in, list_parts}

-- the first i types are merged: their merge is t, and v words are used
pub record Merging (old new : List ℕ) (used : ℕ) (types now : List ℕ) (t v i : ℕ) : Type 0 where
  pub grew : Grew old new used now v
  pub good : Good (take v (old ++ now))
  pub at : TypeIn (take v (old ++ now)) t
  pub rest : All (TypeIn (take v (old ++ now))) (drop i types)
  pub left : meet_list_of types (take used (old ++ new)) ≡ merge_from t (drop i types) (take v (old ++ now))

module _ {old new : List ℕ} {used : ℕ} {types : List ℕ} (c : Cleared (meet_list_rows types) old new used) where
  pub merging_begin : Merging old new used types new 6 used 0
  merging_begin =
      let u = take used (old ++ new) in
      record { grew = grew_none c.good c.within; good = c.good; at = top_in u c.good; rest = list_parts types u c.good c.passed; left = refl }

  module _ {now : List ℕ} {t v i : ℕ} (m : Merging old new used types now t v i) where
    abbrev u : List ℕ
    u = take v (old ++ now)

    -- the list is at its end
    pub merging_done : length types ≤ i → Runs (meet_list_of types) old new used now (interned t v)
    unfolding merge_from
    merging_done end =
        let none : drop i types ≡ [] = drop_of_length-le types end in
        let e : meet_list_of types (take used (old ++ new)) ≡ record { words = u; handle = t } = m.left ∙ rw none refl in
        let f = m.grew.fits in
        rw e (fit used (record { words = u; handle = t }) (old ++ new) (old ++ now) t v (record { handle = refl; end = f.end; room = f.room; words = f.words }))

    module _ (more : i < length types) where
      abbrev h : ℕ
      h = get_or types i 0

      abbrev g : Grown
      g = meet_of u t h

      split : drop i types ≡ h ∷ drop (i + 1) types
      split = let n : i + 1 ≡ suc i = omega arith in rw n (drop-cons types i 0 more)

      two : TypeIn u h × All (TypeIn u) (drop (i + 1) types)
      two = rw split at m.rest

      next : meet_list_of types (take used (old ++ new)) ≡ merge_from g.handle (drop (i + 1) types) g.words
      unfolding merge_from
      next = m.left ∙ rw split refl

      given : Given u g
      given = met u t h m.good m.at two.0

      long : length u ≡ v
      long = length-take-le v (old ++ now) (omega (arith, length-append old now, grew_long m.grew, grew_high m.grew))

      -- what the next meet requires
      here : {x : ℕ} → TypeIn u x → Part u v 33 1 11 x
      here p = part_weak v 33 (omega (arith, long)) (omega arith) p

      pub merging_ready : Ready old now v 1 11 t h
      merging_ready = record {
        over = omega (arith, c.over, grew_up m.grew);
        within = omega (arith, grew_high m.grew, grew_long m.grew);
        small = omega (arith, c.small, grew_long m.grew);
        cut = c.cut;
        near = (here m.at).earlier;
        next = (here two.0).earlier;
        good = m.good;
        first = here m.at;
        second = here two.0;
      }

      module _ (now' : List ℕ) (r : Option Interned) (ran : Runs (λ w. meet_of w t h) old now v now' r) where
        grows : Extends u g.words
        grows = meet_grows (suc (max t h)) u t h

        pub merging_full : r ≡ None → Runs (meet_list_of types) old new used now' None
        merging_full e = rw next (grew_stop m.grew g now' r grows ran e (merge_from g.handle (drop (i + 1) types) g.words) (merge_grows g.handle (drop (i + 1) types) g.words))

        pub merging_more : (k w : ℕ) → r ≡ interned k w → Merging old new used types now' k w (i + 1)
        merging_more k w e =
            let s = grew_words m.grew g now' r grows ran k w e in
            record {
              grew = grew_more m.grew g now' r grows ran k w e given.adds;
              good = rw s.1 (good_adds m.good given.adds);
              at = rw (s.1, s.0) given.part;
              rest = rw s.1 (all_map (λ x. later x m.good given) (drop (i + 1) types) two.1);
              left = rw (s.1, s.0) next;
            }

        -- an index of the words before is one of those after it
        pub merging_covers : (k w : ℕ) → r ≡ interned k w → {index : List ℕ} → Covers u index → Covers (take w (old ++ now')) index
        merging_covers k w e {index} x = let s = grew_words m.grew g now' r grows ran k w e in rw s.1 (covers_more u g.words index grows x)

-- ---- the memory

-- nothing is promised where the store was full
pub then_full : {old new' memory : List ℕ} → RightThen old new' None memory
then_full = record { is = λ h v e. let z : ◌≡◌ {A = ℕ} 0 1 = cc in absurd (omega arith) }

-- right for the words that are used at the end
pub then_now : {old now memory : List ℕ} {t v : ℕ} → Right (take v (old ++ now)) memory → RightThen old now (interned t v) memory
then_now {v = v} r = record { is = λ h w e. rw (← (same_interned e).1) r }
