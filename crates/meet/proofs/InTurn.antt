-- A loop that makes parts one after another, whatever makes each: what is left gives what all of them give. For meet, the walk and make_ro. Assumes nothing.
use mathlib.Core.Path.{◌≡◌, refl, ap, ◌∙◌}
use mathlib.Core.Bool.{true}
use mathlib.Core.List.{List, [], ◌∷◌, ◌++◌, append-nil}
use Prim.Native.Nat.{ℕ, ◌+◌, ◌≤◌, ◌<◌}
use native.Mathlib.Omega.{arith}
use native.Mathlib.Numerals.{add-one}
use lib.ListN.{length, take, drop, set, length-take}
use lib.Seq.{take-suc-set, append_snoc}
use Rattle.words.specs.Words.{fills}
use Rattle.words.specs.Made.{Grown}
use Rattle.words.specs.Ran.{Segments, Ran}
use Rattle.std.specs.Prelude.{Option, None}
use Rattle.words.specs.Ran.{interned}
use Rattle.words.specs.declared.Interned.{Interned}
use Rattle.words.proofs.Extend.{Extends, ext_then}
use Rattle.call.specs.Adds.{Adds}
use Rattle.parts.specs.Parts.{Good, Part, ReadyOne}
use Rattle.parts.proofs.Good.{part_weak, good_adds, part_adds}
use Rattle.parts.proofs.Grew.{Grew, grew_none, grew_long, grew_up, grew_high, grew_ran, grew_words, grew_more, grew_stop, grew_segments}
use Rattle.meet.specs.Meet.{Many, led}

-- handles before those of others
abbrev pub joined : List ℕ → Many → Many
joined acc m = record { words = m.words; handles = acc ++ m.handles }

-- n parts: below the number k, the i-th is what `step k i` makes, and `rest k i` makes it and all that follow
pub record Sequence (n : ℕ) : Type 0 where
  pub step : ℕ → ℕ → List ℕ → Grown
  pub rest : ℕ → ℕ → List ℕ → Many
  pub next : (k i : ℕ) (w : List ℕ) → i < n → rest k i w ≡ led (step k i w).handle (rest k (i + 1) (step k i w).words)
  pub last : (k : ℕ) (w : List ℕ) → rest k n w ≡ record { words = w; handles = [] }
  pub step_grows : (k i : ℕ) (w : List ℕ) → Extends w (step k i w).words
  pub rest_grows : (k i : ℕ) (w : List ℕ) → Extends w (rest k i w).words

-- after i of them, whose handles stand in `parts`, for each k from low on
pub record InTurn {n : ℕ} (Q : Sequence n) (low : ℕ) (old new : List ℕ) (used : ℕ) (now parts : List ℕ) (v i : ℕ) : Type 0 where
  pub some : 1 ≤ used
  pub over : length old ≤ used
  pub small : length old + length new ≤ 1048576
  pub cut : fills 0 (drop 1 old) ≡ true
  pub grew : Grew old new used now v
  pub is : (k : ℕ) → low ≤ k → Q.rest k 0 (take used (old ++ new)) ≡ joined (take i parts) (Q.rest k i (take v (old ++ now)))

pub turn_begin : {n : ℕ} (Q : Sequence n) (low : ℕ) {old new : List ℕ} {used : ℕ} (parts : List ℕ) → 1 ≤ used → length old ≤ used → used ≤ length old + length new → length old + length new ≤ 1048576 → fills 0 (drop 1 old) ≡ true → Good (take used (old ++ new)) → InTurn Q low old new used new parts used 0
turn_begin Q low parts some over within small cut good = record { some = some; over = over; small = small; cut = cut; grew = grew_none good within; is = λ k l. refl }

module _ {n : ℕ} {Q : Sequence n} {low : ℕ} {old new : List ℕ} {used : ℕ} {now parts : List ℕ} {v i : ℕ} (J : InTurn Q low old new used now parts v i) where
  abbrev w₀ : List ℕ
  w₀ = take used (old ++ new)

  abbrev w : List ℕ
  w = take v (old ++ now)

  -- a part of the entry at a is a part still
  pub turn_part : {a x : ℕ} (k : ℕ) → a ≤ k → Part w₀ a 33 1 11 x → Part w k 33 1 11 x
  turn_part k l p = part_weak k 33 l (omega arith) (part_adds J.grew.start J.grew.adds p)

  -- what a call on one of them requires
  pub turn_ready : {a x : ℕ} → a < used → Part w₀ a 33 1 11 x → ReadyOne old now v x
  turn_ready l p =
      let up = grew_up J.grew in
      let long = grew_long J.grew in
      record {
        over = omega (arith, J.over);
        within = omega (arith, grew_high J.grew);
        small = omega (arith, J.small);
        cut = J.cut;
        near = omega (arith, p.earlier);
        good = good_adds J.grew.start J.grew.adds;
        first = turn_part v (omega arith) p;
      }

  -- what the next part's call left
  module _ (more : i < n) (now' : List ℕ) (r : Option Interned) (told : (k : ℕ) → low ≤ k → Ran v (Q.step k i w) (old ++ now) (old ++ now') r) where
    unrolled : (k : ℕ) → low ≤ k → Q.rest k 0 w₀ ≡ joined (take i parts) (led (Q.step k i w).handle (Q.rest k (i + 1) (Q.step k i w).words))
    unrolled k l = J.is k l ∙ ap (joined (take i parts)) (Q.next k i w more)

    pub turn_stop : r ≡ None → (F : Many → Grown) → ((m : Many) → Extends m.words (F m).words) → (k : ℕ) → low ≤ k → Ran used (F (Q.rest k 0 w₀)) (old ++ new) (old ++ now') None
    turn_stop f F grows k l =
        let m = Q.step k i w in
        let all = Q.rest k 0 w₀ in
        let e : all.words ≡ (Q.rest k (i + 1) m.words).words = ap (λ (z : Many). z.words) (unrolled k l) in
        let x : Extends m.words all.words = rw e (Q.rest_grows k (i + 1) m.words) in
        grew_stop J.grew m now' r (Q.step_grows k i w) (told k l) f (F all) (ext_then m.words all.words (F all).words x (grows all))

    -- its handle is that of an entry of the store
    pub turn_small : Adds w (Q.step low i w) → (Q.step low i w).handle < length (Q.step low i w).words → (h v' : ℕ) → r ≡ interned h v' → h < 1048576
    turn_small adds below h v' f =
        let g = Q.step low i w in
        let s = grew_words J.grew g now' r (Q.step_grows low i w) (told low (omega arith)) h v' f in
        let G = grew_more J.grew g now' r (Q.step_grows low i w) (told low (omega arith)) h v' f adds in
        let long : length g.words ≤ v' = rw (← s.1) (omega (arith, length-take v' (old ++ now'))) in
        omega (arith, below, s.0, long, grew_high G, J.small)

    pub turn_on : Adds w (Q.step low i w) → (h v' : ℕ) → r ≡ interned h v' → i < length parts → InTurn Q low old new used now' (set parts i h) v' (i + 1)
    turn_on adds h v' f l = record {
      some = J.some;
      over = J.over;
      small = J.small;
      cut = J.cut;
      grew = grew_more J.grew (Q.step low i w) now' r (Q.step_grows low i w) (told low (omega arith)) h v' f adds;
      is = λ k lk.
          let sk = grew_words J.grew (Q.step k i w) now' r (Q.step_grows k i w) (told k lk) h v' f in
          let tk : take (i + 1) (set parts i h) ≡ take i parts ++ (h ∷ []) = rw (add-one i) (take-suc-set parts i h l) in
          let rest = Q.rest k (i + 1) (take v' (old ++ now')) in
          let c : joined (take i parts) (led h rest) ≡ joined (take i parts ++ (h ∷ [])) rest = cc (append_snoc (take i parts) h rest.handles) in
          unrolled k lk ∙ rw (tk, ← sk.1, ← sk.0) c;
    }

  -- the last part is done
  pub turn_end : n ≤ i → i ≤ n → (F : Many → Grown) → ((m : Many) → Extends m.words (F m).words) → (now' : List ℕ) (r : Option Interned) → Ran v (F (record { words = w; handles = take n parts })) (old ++ now) (old ++ now') r
      → (k : ℕ) → low ≤ k → Ran used (F (Q.rest k 0 w₀)) (old ++ new) (old ++ now') r
  turn_end lo hi F grows now' r t k l =
      let e : i ≡ n = omega arith in
      let last : Many = record { words = w; handles = take n parts } in
      let j : Q.rest k 0 w₀ ≡ joined (take n parts) (Q.rest k n w) = rw e at (J.is k l) in
      let q : Q.rest k 0 w₀ ≡ last = j ∙ rw (Q.last k w, append-nil (take n parts)) in
      rw q (grew_ran J.grew (F last) now' r (grows last) t)

  -- what the maker at the loop's end requires
  pub turn_segments : Segments old now v
  turn_segments = grew_segments J.grew J.some J.over J.cut
