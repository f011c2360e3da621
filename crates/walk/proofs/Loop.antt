-- The loop that walks parts one after another, for tuples and for structs. Assumes nothing.
use mathlib.Core.Path.{◌≡◌, ◌∙◌}
use mathlib.Core.List.{List, ◌++◌}
use Prim.Native.Nat.{ℕ, ◌+◌, ◌-◌, ◌*◌, ◌≤◌, ◌<◌}
use native.Mathlib.Omega.{arith}
use lib.ListN.{length, take, get_or, set}
use Rattle.words.specs.Made.{Grown}
use Rattle.words.specs.Ran.{Segments, Ran}
use Rattle.std.specs.Prelude.{Option, None}
use Rattle.words.specs.Ran.{interned}
use Rattle.words.specs.declared.Interned.{Interned}
use Rattle.words.proofs.Extend.{Extends}
use Rattle.words.specs.Columns.{every, word}
use Rattle.parts.specs.Parts.{Part, All, ReadyOne}
use Rattle.parts.proofs.Good.{good_adds}
use Rattle.parts.proofs.Left.{every_zero, every_next, every_at}
use Rattle.parts.proofs.Grew.{grew_kept}
use Rattle.meet.specs.Meet.{Many}
use Rattle.meet.proofs.InTurn.{Sequence, InTurn, turn_begin, turn_part, turn_ready, turn_stop, turn_small, turn_on, turn_end, turn_segments}
use Rattle.walk_rules.specs.declared.Walk.{Walk}
use Rattle.walk.specs.Walked.{Walked}
use Rattle.walk.specs.Walk.{walk_each, walk_within}
use Rattle.walk.proofs.Grows.{walk_grows, each_grows}
use Rattle.walk.proofs.Nice.{walk_nice}

-- n parts, s words apart from p on
pub parts_of : Walk → (s n p : ℕ) (u : List ℕ) → Sequence n
unfolding walk_each every
parts_of walk s n p u = record {
  step = λ k i w. walk_within walk k w (word u (p + s * i));
  rest = λ k i w. walk_each (walk_within walk k) w (every s (n - i) (p + s * i) u);
  next = λ k i w more. rw (every_next s n p i u more);
  last = λ k w. let z : n - n ≡ 0 = omega arith in rw z;
  step_grows = λ k i w. walk_grows walk k w (word u (p + s * i));
  rest_grows = λ k i w. each_grows walk (walk_within walk k) (walk_grows walk k) w (every s (n - i) (p + s * i) u);
}

-- after i of n parts
pub record Going₁ (walk : Walk) (s : ℕ) (old new : List ℕ) (used a n p₀ : ℕ) (now parts : List ℕ) (v i : ℕ) : Type 0 where
  pub turn : InTurn (parts_of walk s n p₀ (take used (old ++ new))) a old new used now parts v i
  pub inside : a < used
  pub first : All (Part (take used (old ++ new)) a 33 1 11) (every s n p₀ (take used (old ++ new)))

pub going_begin : (walk : Walk) (s : ℕ) (old new : List ℕ) (used a n p₀ : ℕ) (parts : List ℕ) → ReadyOne old new used a → All (Part (take used (old ++ new)) a 33 1 11) (every s n p₀ (take used (old ++ new))) → Going₁ walk s old new used a n p₀ new parts used 0
going_begin walk s old new used a n p₀ parts rd pa = record {
  turn = turn_begin (parts_of walk s n p₀ (take used (old ++ new))) a parts (omega (arith, rd.near)) rd.over rd.within rd.small rd.cut rd.good;
  inside = rd.near;
  first = pa;
}

module _ {walk : Walk} {s : ℕ} {old new : List ℕ} {used a n p₀ : ℕ} {now parts : List ℕ} {v i : ℕ} (J : Going₁ walk s old new used a n p₀ now parts v i) where
  abbrev w₀ : List ℕ
  w₀ = take used (old ++ new)

  abbrev w : List ℕ
  w = take v (old ++ now)

  abbrev every_part : (k : ℕ) → Many
  every_part k = walk_each (walk_within walk k) w₀ (every s n p₀ w₀)

  whole : (k : ℕ) → (parts_of walk s n p₀ w₀).rest k 0 w₀ ≡ every_part k
  unfolding parts_of
  whole k = rw (every_zero s n p₀ w₀)

  -- the part that is next
  module _ (more : i < n) (p x : ℕ) (ep : p ≡ p₀ + s * i) (ex : x ≡ get_or (take used (old ++ now)) p 0) where
    is_x : x ≡ word w₀ (p₀ + s * i)
    is_x = ex ∙ rw (grew_kept J.turn.grew, ep)

    part_x : Part w₀ a 33 1 11 x
    part_x = rw is_x (every_at (Part w₀ a 33 1 11) s n p₀ w₀ J.first i more)

    pub going_first : x < a
    going_first = part_x.earlier

    pub going_ready : ReadyOne old now v x
    going_ready = turn_ready J.turn J.inside part_x

    -- what the part's call left
    module _ {now' : List ℕ} {r : Option Interned} (walked : Walked walk old now v x now' r) where
      told : (k : ℕ) → a ≤ k → Ran v ((parts_of walk s n p₀ w₀).step k i w) (old ++ now) (old ++ now') r
      unfolding parts_of
      told k l = rw is_x at (walked.is k (omega (arith, going_first)))

      pub going_stop : r ≡ None → (F : Many → Grown) → ((m : Many) → Extends m.words (F m).words) → (k : ℕ) → a ≤ k → Ran used (F (every_part k)) (old ++ new) (old ++ now') None
      going_stop f F grows k ka = rw (whole k) at (turn_stop J.turn more now' r told f F grows k ka)

      pub going_turn : (h v' : ℕ) → r ≡ interned h v' → i < length parts → Going₁ walk s old new used a n p₀ now' (set parts i h) v' (i + 1)
      unfolding parts_of
      going_turn h v' f l =
          let res = (walk_nice walk a).types w x 33 (good_adds J.turn.grew.start J.turn.grew.adds) (turn_part J.turn a (omega arith) part_x) in
          record { turn = turn_on J.turn more now' r told (rw is_x at res.adds) h v' f l; inside = J.inside; first = J.first }

      -- its handle is that of an entry of the store
      pub going_small : (h v' : ℕ) → r ≡ interned h v' → h < 1048576
      unfolding parts_of
      going_small h v' f =
          let res = (walk_nice walk a).types w x 33 (good_adds J.turn.grew.start J.turn.grew.adds) (turn_part J.turn a (omega arith) part_x) in
          turn_small J.turn more now' r told (rw is_x at res.adds) (rw is_x at res.part.earlier) h v' f

  -- the last part is done
  pub going_end : n ≤ i → i ≤ n → (F : Many → Grown) → ((m : Many) → Extends m.words (F m).words) → (now' : List ℕ) (r : Option Interned) → Ran v (F (record { words = w; handles = take n parts })) (old ++ now) (old ++ now') r → (k : ℕ) → a ≤ k
      → Ran used (F (every_part k)) (old ++ new) (old ++ now') r
  going_end lo hi F grows now' r t k ka = rw (whole k) at (turn_end J.turn lo hi F grows now' r t k ka)

  -- what the maker at the loop's end requires
  pub going_segments : Segments old now v
  going_segments = turn_segments J.turn
