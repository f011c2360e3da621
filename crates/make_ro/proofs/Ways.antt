-- Each way through make_ro gives what the definition gives. Assumes nothing.
use mathlib.Core.Path.{◌≡◌, sym, ◌∙◌}
use mathlib.Core.Bool.{Bool, true, false}
use mathlib.Core.List.{List, ◌++◌}
use Prim.Native.Nat.{ℕ, zero, suc, ◌+◌, ◌*◌, ◌/◌, ◌%◌, ◌≤◌, ◌<◌}
use native.Mathlib.Omega.{arith}
use borrow.Author.Tests.{eq-eqb, ne_eqb}
use lib.ListN.{length, take, get_or, replicate}
use Rattle.words.specs.Made.{Grown, there, make}
use Rattle.words.specs.Ran.{Segments, Ran, Runs}
use Rattle.std.specs.Prelude.{Option, None}
use Rattle.words.specs.Ran.{interned}
use Rattle.words.specs.declared.Interned.{Interned}
use Rattle.wellformed.specs.Entry.{all, is_alias_final}
use Rattle.words.specs.Columns.{every, kind_on, count_on}
use Rattle.makers.specs.Entries.{pointer_entry}
use Rattle.structs.specs.Remade.{remake}
use Rattle.index.specs.Covers.{Covers}
use Rattle.parts.specs.Parts.{Part, ReadyOne}
use Rattle.parts.proofs.Parts.{flat, of_struct, all_map}
use Rattle.parts.proofs.Good.{part_weak, part_ready, good_adds}
use Rattle.parts.proofs.Grew.{Grew, grew_none, grew_there, grew_long, grew_high, grew_more, grew_stop, grew_segments, grew_values, then_made, grew_covers}
use Rattle.finals.specs.Final.{is_final_of}
use Rattle.finals.specs.Known.{Finals}
use Rattle.finals.proofs.Ways.{pointer_part}
use Rattle.make_ro.specs.ReadOnly.{read_only_field_types, read_only_struct_of, pointer_to, make_ro_within}
use Rattle.make_ro.specs.MadeRo.{MadeRo, FieldRo}
use Rattle.make_ro.proofs.Grows.{make_ro_grows, pointer_to_grows}
use Rattle.make_ro.proofs.Nice.{make_ro_nice}
use Rattle.make_ro.proofs.Loop.{GoingRo, going_begin, going_stop, going_end}

-- ---- a field's type

module _ (old new : List ℕ) (used value t : ℕ) where
  pub field_stays : ReadyOne old new used t → value % 2 ≡ 1 → FieldRo old new used value t new (interned t used)
  field_stays rd e =
      let g : Grew old new used new used = grew_none rd.good rd.within in
      record { is = λ n h. rw (eq-eqb (value % 2) 1 e) (grew_there t g) }

  pub field_made : (value % 2 ≡ 1 → ⊥) → (new' : List ℕ) (m : Option Interned) → MadeRo old new used t new' m → FieldRo old new used value t new' m
  field_made e new' m made = record { is = λ n h. rw (ne_eqb (value % 2) 1 e) (made.is n h) }

-- ---- a type

module _ (old new : List ℕ) (used a : ℕ) (rd : ReadyOne old new used a) where
  abbrev u : List ℕ
  u = take used (old ++ new)

  grew : Grew old new used new used
  grew = grew_none rd.good rd.within

  -- the definition's step, for every number from the handle on
  by_step : (new' : List ℕ) (m : Option Interned) → ((k : ℕ) → a ≤ k → Ran used (make_ro_within (suc k) u a) (old ++ new) (old ++ new') m) → MadeRo old new used a new' m
  by_step new' m f = record { is = go }
    where
      go : (n : ℕ) → a < n → Ran used (make_ro_within n (take used (old ++ new)) a) (old ++ new) (old ++ new') m
      go zero h = absurd (omega arith)
      go (suc k) h = f k (omega arith)

  module _ (x : ℕ) (ex : x ≡ get_or (take used (old ++ new)) a 0) where
    pub other_stays : (x % 256 ≡ 10 → ⊥) → (x % 256 ≡ 8 → ⊥) → MadeRo old new used a new (interned a used)
    unfolding make_ro_within
    other_stays m s = by_step new (interned a used) (λ k ka. rw (← ex, ne_eqb (x % 256) 10 m, ne_eqb (x % 256) 8 s) (grew_there a grew))

    -- a struct, and what is_final answers
    module _ (m : x % 256 ≡ 10 → ⊥) (e : x % 256 ≡ 8) (r : Bool) (finals : Finals (take used (old ++ new)) a r) where
      pub final_stays : r ≡ true → MadeRo old new used a new (interned a used)
      unfolding make_ro_within
      final_stays y =
          let f : is_final_of u a ≡ true = sym (finals.is (suc a) (omega arith)) ∙ y in
          by_step new (interned a used) (λ k ka. rw (← ex, ne_eqb (x % 256) 10 m, eq-eqb (x % 256) 8 e, f) (grew_there a grew))

      pub not_final : r ≡ false → (kind_on (take used (old ++ new)) a ≡ 8) × (is_final_of (take used (old ++ new)) a ≡ false)
      not_final y = (rw (← ex) e, sym (finals.is (suc a) (omega arith)) ∙ y)

    -- a pointer
    module _ (e : x % 256 ≡ 10) where
      is_pointer : kind_on u a ≡ 10
      is_pointer = rw (← ex) e

      module _ (to : ℕ) (et : to ≡ get_or (take used (old ++ new)) (a + 1) 0) where
        to_struct : Part u a 33 1 11 to
        to_struct = pointer_part rd.good rd.first x ex e to et

        pub pointer_next : (to < a) × ReadyOne old new used to
        pointer_next = part_ready rd to_struct

        module _ (now : List ℕ) (m : Option Interned) (made : MadeRo old new used to now m) where
          abbrev struct : ℕ → Grown
          struct k = make_ro_within k u to

          told : (k : ℕ) → a ≤ k → Ran used (struct k) (old ++ new) (old ++ now) m
          told k ka = made.is k (omega (arith, to_struct.earlier))

          is_pointer_to : (k : ℕ) → make_ro_within (suc k) u a ≡ pointer_to u a (struct k)
          unfolding make_ro_within
          is_pointer_to k = rw (eq-eqb (kind_on u a) 10 is_pointer, et)

          by_struct : (now₂ : List ℕ) (o : Option Interned) → ((k : ℕ) → a ≤ k → Ran used (pointer_to u a (struct k)) (old ++ new) (old ++ now₂) o) → MadeRo old new used a now₂ o
          by_struct now₂ o f = by_step now₂ o (λ k ka. rw (is_pointer_to k) (f k ka))

          pub pointer_full : m ≡ None → MadeRo old new used a now None
          pointer_full f = by_struct now None (λ k ka. grew_stop grew (struct k) now m (make_ro_grows k u to) (told k ka) f (pointer_to u a (struct k)) (pointer_to_grows u a (struct k)))

          module _ (h v : ℕ) (f : m ≡ interned h v) where
            on : Grew old new used now v
            on = grew_more grew (struct a) now m (make_ro_grows a u to) (told a (omega arith)) h v f ((make_ro_nice a).types u to 33 rd.good to_struct).adds

            pub pointer_segments : Segments old now v
            pointer_segments = grew_segments on (omega (arith, rd.near)) rd.over rd.cut

            -- what the maker of the pointer requires
            pub pointer_required : {index : List ℕ} → Covers (take used (old ++ new)) index → Segments old now v × Covers (take v (old ++ now)) index
            pointer_required c = (pointer_segments, grew_covers on c)

            then_pointer : (now₂ : List ℕ) (o : Option Interned) → Ran v (pointer_to u a (there (take v (old ++ now)) h)) (old ++ now) (old ++ now₂) o → MadeRo old new used a now₂ o
            then_pointer now₂ o l = by_struct now₂ o (λ k ka. then_made grew (struct k) now m (make_ro_grows k u to) (told k ka) h v f on (λ w n. pointer_to u a (there w n)) (λ w n. pointer_to_grows u a (there w n)) now₂ o l)

            pub pointer_stays : h ≡ to → MadeRo old new used a now (interned a v)
            pointer_stays q =
                let high : v ≤ length old + length now = omega (arith, grew_high on, grew_long on) in
                let here : Grew old now v now v = grew_none (good_adds on.start on.adds) high in
                then_pointer now (interned a v) (rw (← et, eq-eqb h to q) (grew_there a here))

            pub pointer_made : (h ≡ to → ⊥) → (nil : ℕ) → nil ≡ get_or (take used (old ++ new)) (a + 2) 0 → (now₂ : List ℕ) (o : Option Interned) → Runs (λ z. make z (pointer_entry h nil z)) old now v now₂ o → MadeRo old new used a now₂ o
            pointer_made q nil en now₂ o l = then_pointer now₂ o (rw (← et, ne_eqb h to q, ← en) l)

    -- a struct whose fields are not all final
    module _ (q : kind_on (take used (old ++ new)) a ≡ 8) (f : is_final_of (take used (old ++ new)) a ≡ false) where
      by_fields : (now₂ : List ℕ) (o : Option Interned) → ((k : ℕ) → a ≤ k → Ran used (read_only_struct_of a (read_only_field_types (make_ro_within k) u a)) (old ++ new) (old ++ now₂) o) → MadeRo old new used a now₂ o
      unfolding make_ro_within
      by_fields now₂ o g = let m : kind_on u a ≡ 10 → ⊥ = (λ z. absurd (omega arith)) in by_step now₂ o (λ k ka. rw (ne_eqb (kind_on u a) 10 m, eq-eqb (kind_on u a) 8 q, f) (g k ka))

      pub struct_begin : (ts : List ℕ) → GoingRo old new used a (x / 65536) new ts used 0
      struct_begin ts =
          going_begin old new used a (x / 65536) ts rd
          (rw ex (all_map (λ z p. part_weak a 33 (omega arith) (omega (arith, flat rd.good.sound rd.first)) p) (every 3 (count_on u a) (a + 3) u) (of_struct rd.good.sound rd.first q).types))

      module _ (now ts : List ℕ) (v i : ℕ) (J : GoingRo old new used a (x / 65536) now ts v i) where
        pub struct_stop : (more : i < x / 65536) (t value : ℕ) → t ≡ get_or (take used (old ++ now)) (a + 3 + 3 * i) 0 → value ≡ get_or (take used (old ++ now)) (a + 3 + 3 * i + 1) 0 → (now₂ : List ℕ) (m : Option Interned) → FieldRo old now v value t now₂ m → m ≡ None → MadeRo old new used a now₂ None
        struct_stop more t value et ev now₂ m made z = by_fields now₂ None (λ k ka. rw (← ex) (going_stop J more t value et ev made z k ka))

        pub struct_end : x / 65536 ≤ i → i ≤ x / 65536 → (now₂ : List ℕ) (m : Option Interned) → Runs (remake a (take (x / 65536) ts) (replicate (length (take (x / 65536) ts)) 1)) old now v now₂ m → MadeRo old new used a now₂ m
        struct_end lo hi now₂ m t = by_fields now₂ m (λ k ka. rw (← ex) (going_end J lo hi now₂ m t k ka))

        pub struct_values : all is_alias_final (every 3 (x / 65536) (a + 4) (take v (old ++ now))) ≡ true
        struct_values = grew_values J.turn.grew rd.first q x ex
