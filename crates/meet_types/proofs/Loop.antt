-- The loop that meets parts one after another, for tuples and for structs. Assumes nothing.
use mathlib.Core.Path.{◌≡◌, ◌∙◌}
use mathlib.Core.List.{List, ◌++◌}
use Prim.Native.Nat.{ℕ, ◌+◌, ◌-◌, ◌*◌, ◌≤◌, ◌<◌, max}
use native.Mathlib.Omega.{arith}
use lib.ListN.{length, take, get_or, set}
use Rattle.words.specs.Made.{Grown}
use Rattle.words.specs.Ran.{Segments, Ran}
use Rattle.std.specs.Prelude.{Option, None}
use Rattle.words.specs.Ran.{interned}
use Rattle.words.specs.declared.Interned.{Interned}
use Rattle.words.proofs.Extend.{Extends}
use Rattle.words.specs.Columns.{every, word}
use Rattle.parts.specs.Parts.{Part, All, Ready}
use Rattle.parts.proofs.Good.{good_adds}
use Rattle.parts.proofs.Left.{every_zero, every_next, every_at}
use Rattle.parts.proofs.Grew.{grew_kept}
use Rattle.meet.specs.Meet.{Many, meet_each, meet_within}
use Rattle.meet.specs.Met.{Met}
use Rattle.meet.proofs.Grows.{meet_grows, each_grows}
use Rattle.meet.proofs.Nice.{meet_nice}
use Rattle.meet.proofs.InTurn.{Sequence, InTurn, turn_begin, turn_part, turn_ready, turn_stop, turn_small, turn_on, turn_end, turn_segments}

-- n parts of one entry with n of another, s words apart from p and q on
pub pairs : (s n p q : ℕ) (u : List ℕ) → Sequence n
unfolding meet_each every
pairs s n p q u = record {
  step = λ k i w. meet_within k w (word u (p + s * i)) (word u (q + s * i));
  rest = λ k i w. meet_each (meet_within k) w (every s (n - i) (p + s * i) u) (every s (n - i) (q + s * i) u);
  next = λ k i w more. rw (every_next s n p i u more, every_next s n q i u more);
  last = λ k w. let z : n - n ≡ 0 = omega arith in rw z;
  step_grows = λ k i w. meet_grows k w (word u (p + s * i)) (word u (q + s * i));
  rest_grows = λ k i w. each_grows (meet_within k) (meet_grows k) w (every s (n - i) (p + s * i) u) (every s (n - i) (q + s * i) u);
}

-- after i of n parts
pub record Going (s : ℕ) (old new : List ℕ) (used a b n p₀ q₀ : ℕ) (now parts : List ℕ) (v i : ℕ) : Type 0 where
  pub turn : InTurn (pairs s n p₀ q₀ (take used (old ++ new))) (max a b) old new used now parts v i
  pub inside : (a < used) × (b < used)
  pub first : All (Part (take used (old ++ new)) a 33 1 11) (every s n p₀ (take used (old ++ new)))
  pub second : All (Part (take used (old ++ new)) b 33 1 11) (every s n q₀ (take used (old ++ new)))

pub going_begin : (s : ℕ) (old new : List ℕ) (used a b n p₀ q₀ : ℕ) (parts : List ℕ) {low high : ℕ} → Ready old new used low high a b
    → All (Part (take used (old ++ new)) a 33 1 11) (every s n p₀ (take used (old ++ new))) → All (Part (take used (old ++ new)) b 33 1 11) (every s n q₀ (take used (old ++ new))) → Going s old new used a b n p₀ q₀ new parts used 0
going_begin s old new used a b n p₀ q₀ parts rd pa pb = record {
  turn = turn_begin (pairs s n p₀ q₀ (take used (old ++ new))) (max a b) parts (omega (arith, rd.near)) rd.over rd.within rd.small rd.cut rd.good;
  inside = (rd.near, rd.next);
  first = pa;
  second = pb;
}

module _ {s : ℕ} {old new : List ℕ} {used a b n p₀ q₀ : ℕ} {now parts : List ℕ} {v i : ℕ} (J : Going s old new used a b n p₀ q₀ now parts v i) where
  abbrev w₀ : List ℕ
  w₀ = take used (old ++ new)

  abbrev w : List ℕ
  w = take v (old ++ now)

  abbrev every_part : (k : ℕ) → Many
  every_part k = meet_each (meet_within k) w₀ (every s n p₀ w₀) (every s n q₀ w₀)

  whole : (k : ℕ) → (pairs s n p₀ q₀ w₀).rest k 0 w₀ ≡ every_part k
  unfolding pairs
  whole k = rw (every_zero s n p₀ w₀, every_zero s n q₀ w₀)

  -- the part that is next
  module _ (more : i < n) (p q x y : ℕ) (ep : p ≡ p₀ + s * i) (eq : q ≡ q₀ + s * i) (ex : x ≡ get_or (take used (old ++ now)) p 0) (ey : y ≡ get_or (take used (old ++ now)) q 0) where
    is_x : x ≡ word w₀ (p₀ + s * i)
    is_x = ex ∙ rw (grew_kept J.turn.grew, ep)

    is_y : y ≡ word w₀ (q₀ + s * i)
    is_y = ey ∙ rw (grew_kept J.turn.grew, eq)

    part_x : Part w₀ a 33 1 11 x
    part_x = rw is_x (every_at (Part w₀ a 33 1 11) s n p₀ w₀ J.first i more)

    part_y : Part w₀ b 33 1 11 y
    part_y = rw is_y (every_at (Part w₀ b 33 1 11) s n q₀ w₀ J.second i more)

    pub going_first : x < a
    going_first = part_x.earlier

    pub going_second : y < b
    going_second = part_y.earlier

    pub going_ready : Ready old now v 1 11 x y
    going_ready =
        let rx = turn_ready J.turn J.inside.0 part_x in
        let ry = turn_ready J.turn J.inside.1 part_y in
        record { over = rx.over; within = rx.within; small = rx.small; cut = rx.cut; near = rx.near; next = ry.near; good = rx.good; first = rx.first; second = ry.first }

    -- what the part's call left
    module _ {now' : List ℕ} {r : Option Interned} (met : Met old now v x y now' r) where
      told : (k : ℕ) → max a b ≤ k → Ran v ((pairs s n p₀ q₀ w₀).step k i w) (old ++ now) (old ++ now') r
      unfolding pairs
      told k l = rw (is_x, is_y) at (met.is k (omega (arith, going_first)) (omega (arith, going_second)))

      pub going_stop : r ≡ None → (F : Many → Grown) → ((m : Many) → Extends m.words (F m).words) → (k : ℕ) → a ≤ k → b ≤ k → Ran used (F (every_part k)) (old ++ new) (old ++ now') None
      going_stop f F grows k ka kb = rw (whole k) at (turn_stop J.turn more now' r told f F grows k (omega arith))

      pub going_turn : (h v' : ℕ) → r ≡ interned h v' → i < length parts → Going s old new used a b n p₀ q₀ now' (set parts i h) v' (i + 1)
      unfolding pairs
      going_turn h v' f l =
          let k = max a b in
          let res = meet_nice k w x y 33 (good_adds J.turn.grew.start J.turn.grew.adds) (turn_part J.turn k (omega arith) part_x) (turn_part J.turn k (omega arith) part_y) in
          record { turn = turn_on J.turn more now' r told (rw (is_x, is_y) at res.adds) h v' f l; inside = J.inside; first = J.first; second = J.second }

      -- its handle is that of an entry of the store
      pub going_small : (h v' : ℕ) → r ≡ interned h v' → h < 1048576
      unfolding pairs
      going_small h v' f =
          let k = max a b in
          let res = meet_nice k w x y 33 (good_adds J.turn.grew.start J.turn.grew.adds) (turn_part J.turn k (omega arith) part_x) (turn_part J.turn k (omega arith) part_y) in
          turn_small J.turn more now' r told (rw (is_x, is_y) at res.adds) (rw (is_x, is_y) at res.part.earlier) h v' f

  -- the last part is done
  pub going_end : n ≤ i → i ≤ n → (F : Many → Grown) → ((m : Many) → Extends m.words (F m).words) → (now' : List ℕ) (r : Option Interned) → Ran v (F (record { words = w; handles = take n parts })) (old ++ now) (old ++ now') r → (k : ℕ) → a ≤ k → b ≤ k
      → Ran used (F (every_part k)) (old ++ new) (old ++ now') r
  going_end lo hi F grows now' r t k ka kb = rw (whole k) at (turn_end J.turn lo hi F grows now' r t k (omega arith))

  -- what the maker at the loop's end requires
  pub going_segments : Segments old now v
  going_segments = turn_segments J.turn
