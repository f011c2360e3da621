-- The loop that makes a struct's field types read-only, one after another. Assumes nothing.
use mathlib.Core.Path.{◌≡◌, ◌∙◌}
use mathlib.Core.List.{List, ◌++◌}
use Prim.Native.Nat.{ℕ, ◌+◌, ◌-◌, ◌*◌, ◌≤◌, ◌<◌}
use native.Mathlib.Omega.{arith}
use lib.ListN.{length, take, get_or, set}
use Rattle.words.specs.Ran.{Segments, Ran}
use Rattle.std.specs.Prelude.{Option, None}
use Rattle.words.specs.Ran.{interned}
use Rattle.words.specs.declared.Interned.{Interned}
use Rattle.words.specs.Columns.{every, word}
use Rattle.parts.specs.Parts.{Part, All, ReadyOne}
use Rattle.parts.proofs.Good.{good_adds}
use Rattle.parts.proofs.Left.{every_zero, every_next, every_at}
use Rattle.parts.proofs.Grew.{grew_kept}
use Rattle.meet.specs.Meet.{Many}
use Rattle.meet.proofs.InTurn.{Sequence, InTurn, turn_begin, turn_part, turn_ready, turn_stop, turn_small, turn_on, turn_end, turn_segments}
use Rattle.make_ro.specs.ReadOnly.{field_type, read_only_each, read_only_struct_of, make_ro_within}
use Rattle.make_ro.specs.MadeRo.{FieldRo}
use Rattle.make_ro.proofs.Grows.{make_ro_grows, field_grows, each_grows, struct_grows}
use Rattle.make_ro.proofs.Nice.{make_ro_nice, field_nice}

-- the n fields of the struct at a
pub fields_of : (n a : ℕ) (u : List ℕ) → Sequence n
unfolding read_only_each every
fields_of n a u = record {
  step = λ k i w. field_type (make_ro_within k) w (word u (a + 4 + 3 * i)) (word u (a + 3 + 3 * i));
  rest = λ k i w. read_only_each (make_ro_within k) w (every 3 (n - i) (a + 4 + 3 * i) u) (every 3 (n - i) (a + 3 + 3 * i) u);
  next = λ k i w more. rw (every_next 3 n (a + 4) i u more, every_next 3 n (a + 3) i u more);
  last = λ k w. let z : n - n ≡ 0 = omega arith in rw z;
  step_grows = λ k i w. field_grows (make_ro_within k) (make_ro_grows k) w (word u (a + 4 + 3 * i)) (word u (a + 3 + 3 * i));
  rest_grows = λ k i w. each_grows (make_ro_within k) (make_ro_grows k) w (every 3 (n - i) (a + 4 + 3 * i) u) (every 3 (n - i) (a + 3 + 3 * i) u);
}

-- after i of them
pub record GoingRo (old new : List ℕ) (used a n : ℕ) (now types : List ℕ) (v i : ℕ) : Type 0 where
  pub turn : InTurn (fields_of n a (take used (old ++ new))) a old new used now types v i
  pub inside : a < used
  pub parts : All (Part (take used (old ++ new)) a 33 1 11) (every 3 n (a + 3) (take used (old ++ new)))

pub going_begin : (old new : List ℕ) (used a n : ℕ) (types : List ℕ) → ReadyOne old new used a → All (Part (take used (old ++ new)) a 33 1 11) (every 3 n (a + 3) (take used (old ++ new))) → GoingRo old new used a n new types used 0
going_begin old new used a n types rd pa = record {
  turn = turn_begin (fields_of n a (take used (old ++ new))) a types (omega (arith, rd.near)) rd.over rd.within rd.small rd.cut rd.good;
  inside = rd.near;
  parts = pa;
}

module _ {old new : List ℕ} {used a n : ℕ} {now types : List ℕ} {v i : ℕ} (J : GoingRo old new used a n now types v i) where
  abbrev w₀ : List ℕ
  w₀ = take used (old ++ new)

  abbrev w : List ℕ
  w = take v (old ++ now)

  abbrev every_type : (k : ℕ) → Many
  every_type k = read_only_each (make_ro_within k) w₀ (every 3 n (a + 4) w₀) (every 3 n (a + 3) w₀)

  whole : (k : ℕ) → (fields_of n a w₀).rest k 0 w₀ ≡ every_type k
  unfolding fields_of
  whole k = rw (every_zero 3 n (a + 3) w₀, every_zero 3 n (a + 4) w₀)

  -- the field that is next: its type t, and its word, value
  module _ (more : i < n) (t value : ℕ) (et : t ≡ get_or (take used (old ++ now)) (a + 3 + 3 * i) 0) (ev : value ≡ get_or (take used (old ++ now)) (a + 3 + 3 * i + 1) 0) where
    is_type : t ≡ word w₀ (a + 3 + 3 * i)
    is_type = et ∙ rw (grew_kept J.turn.grew)

    is_value : value ≡ word w₀ (a + 4 + 3 * i)
    is_value = let q : a + 3 + 3 * i + 1 ≡ a + 4 + 3 * i = omega arith in ev ∙ rw (grew_kept J.turn.grew, q)

    part_t : Part w₀ a 33 1 11 t
    part_t = rw is_type (every_at (Part w₀ a 33 1 11) 3 n (a + 3) w₀ J.parts i more)

    pub going_next : (t < a) × ReadyOne old now v t
    going_next = (part_t.earlier, turn_ready J.turn J.inside part_t)

    -- what the field's call left
    module _ {now' : List ℕ} {r : Option Interned} (made : FieldRo old now v value t now' r) where
      told : (k : ℕ) → a ≤ k → Ran v ((fields_of n a w₀).step k i w) (old ++ now) (old ++ now') r
      unfolding fields_of
      told k l = rw (is_type, is_value) at (made.is k (omega (arith, part_t.earlier)))

      pub going_stop : r ≡ None → (k : ℕ) → a ≤ k → Ran used (read_only_struct_of a (every_type k)) (old ++ new) (old ++ now') None
      going_stop f k ka = rw (whole k) at (turn_stop J.turn more now' r told f (read_only_struct_of a) (struct_grows a) k ka)

      pub going_turn : (h v' : ℕ) → r ≡ interned h v' → i < length types → GoingRo old new used a n now' (set types i h) v' (i + 1)
      unfolding fields_of
      going_turn h v' f l =
          let res = field_nice (make_ro_within a) a (make_ro_nice a) w value t 33 (good_adds J.turn.grew.start J.turn.grew.adds) (turn_part J.turn a (omega arith) part_t) in
          record { turn = turn_on J.turn more now' r told (rw (is_type, is_value) at res.adds) h v' f l; inside = J.inside; parts = J.parts }

      -- its handle is that of an entry of the store
      pub going_small : (h v' : ℕ) → r ≡ interned h v' → h < 1048576
      unfolding fields_of
      going_small h v' f =
          let res = field_nice (make_ro_within a) a (make_ro_nice a) w value t 33 (good_adds J.turn.grew.start J.turn.grew.adds) (turn_part J.turn a (omega arith) part_t) in
          turn_small J.turn more now' r told (rw (is_type, is_value) at res.adds) (rw (is_type, is_value) at res.part.earlier) h v' f

  -- the last field is done
  pub going_end : n ≤ i → i ≤ n → (now' : List ℕ) (r : Option Interned) → Ran v (read_only_struct_of a (record { words = w; handles = take n types })) (old ++ now) (old ++ now') r → (k : ℕ) → a ≤ k → Ran used (read_only_struct_of a (every_type k)) (old ++ new) (old ++ now') r
  going_end lo hi now' r t k ka = rw (whole k) at (turn_end J.turn lo hi (read_only_struct_of a) (struct_grows a) now' r t k ka)

  -- what the maker at the loop's end requires
  pub going_segments : Segments old now v
  going_segments = turn_segments J.turn
