-- Each way through the two functions gives what the definition gives. Assumes nothing.
use mathlib.Core.Path.{◌≡◌, refl, sym, ◌∙◌}
use mathlib.Core.Bool.{Bool, true, false}
use mathlib.Core.List.{List, [], ◌∷◌, ◌++◌}
use Prim.Native.Nat.{ℕ, zero, suc, ◌+◌, ◌-◌, ◌*◌, ◌/◌, ◌≤◌, ◌<◌, max}
use native.Mathlib.Omega.{arith}
use borrow.Author.Tests.{lt-ltb, eqb-true, eqb-false}
use lib.Dec.{eqb, ltb}
use lib.ListN.{length, take, get_or, set}
use Rattle.words.specs.Made.{Grown, there, make}
use Rattle.words.specs.Ran.{Segments, Ran, Runs}
use Rattle.std.specs.Prelude.{Option, None}
use Rattle.words.specs.Ran.{interned}
use Rattle.words.specs.declared.Interned.{Interned}
use Rattle.words.proofs.Extend.{Extends}
use Rattle.wellformed.specs.Entry.{all, is_alias_final}
use Rattle.words.specs.Columns.{every, word, kind_on, depth_on, count_on, first_flags_on}
use Rattle.wellformed.proofs.Bools.{and_both}
use Rattle.call.specs.Adds.{Adds}
use Rattle.makers.specs.Entries.{tuple_entry, pointer_entry, memory_entry}
use Rattle.type_float.specs.Float.{is_size_word}
use Rattle.makers.proofs.FloatSize.{size_word}
use Rattle.float_meet.specs.FloatRule.{float_rule}
use Rattle.index.specs.Covers.{Covers}
use Rattle.parts.specs.Parts.{Good, Part, NameAt, All, Ready}
use Rattle.parts.proofs.Parts.{few, flat, no_fields, of_tuple, of_struct, of_fref, of_pointer, of_memory, of_float, all_map}
use Rattle.parts.proofs.Good.{part_weak}
use Rattle.struct_rules.specs.Below.{NamesBelow}
use Rattle.meet_rules.specs.Rules.{type_rule, struct_rule, reading_on, float_handle, shared_alias}
use Rattle.meet_rules.specs.declared.Rule.{Rule}
use Rattle.meet_rules.specs.declared.Rule.TheVariants.{First, Second, Bottom, Ints, Floats, Tuples, Structs, Pointers, Memories}
use Rattle.meet_rules.specs.declared.StructRule.{StructRule}
use Rattle.meet_rules.specs.declared.StructRule.TheVariants.{Former, Latter, Lowest, Fields}
use Rattle.meet_rules.proofs.Sure.{sure_tuples, sure_structs, sure_pointers, sure_memories, sure_floats, sure_fields}
use Rattle.meet_fields.specs.Fields.{meet_fields}
use Rattle.meet.specs.Meet.{tuple_of, meet_field_types, meet_struct_of, follow_struct, meet_struct, either_nil, pointer_of, memory_of, meet_int, follow, meet_within}
use Rattle.meet.specs.Met.{Met, MetStruct}
use Rattle.meet.proofs.Grows.{meet_grows, tuple_grows, struct_grows, pointer_grows, memory_grows, structs_grow}
use Rattle.meet.proofs.Nice.{eight, meet_nice, structs_nice, narrow}
use Rattle.parts.proofs.Grew.{Grew, grew_none, grew_there, grew_more, grew_stop, grew_segments, grew_values, then_made, grew_covers}
use Rattle.meet_types.proofs.Loop.{Going, going_begin, going_first, going_second, going_ready, going_stop, going_turn, going_small, going_end}

-- an answer that is there already
old_ran : {old new : List ℕ} {used low high a b : ℕ} (h : ℕ) → Ready old new used low high a b → Ran used (there (take used (old ++ new)) h) (old ++ new) (old ++ new) (interned h used)
old_ran {old} {new} {used} h rd = let w : Grew old new used new used = grew_none rd.good rd.within in grew_there h w

-- parts below 33
shallower : {u : List ℕ} {top low high h : ℕ} → Good u → Part u top 33 low high h → (hs : List ℕ) → All (Part u h (depth_on u h) 1 11) hs → All (Part u h 33 1 11) hs
shallower {h = h} g p hs = all_map (λ z q. part_weak h 33 (omega arith) (omega (arith, flat g.sound p)) q) hs

-- ---- a type's meet

module _ (old new : List ℕ) (used a b : ℕ) (rd : Ready old new used 1 11 a b) (r : Rule) (er : r ≡ type_rule (take used (old ++ new)) a b) where
  abbrev u : List ℕ
  u = take used (old ++ new)

  by_rule : (X : Rule) → r ≡ X → (new' : List ℕ) (m : Option Interned) → ((k : ℕ) → a ≤ k → b ≤ k → Ran used (follow (meet_within k) u a b X) (old ++ new) (old ++ new') m) → Met old new used a b new' m
  unfolding meet_within
  by_rule X e new' m f = record { is = go }
    where
      go : (n : ℕ) → a < n → b < n → Ran used (meet_within n (take used (old ++ new)) a b) (old ++ new) (old ++ new') m
      go zero h l = absurd (omega arith)
      go (suc n) h l = rw (sym er ∙ e) (f n (omega arith) (omega arith))

  pub met_first : r ≡ First → Met old new used a b new (interned a used)
  unfolding follow
  met_first e = by_rule First e new (interned a used) (λ k ka kb. old_ran a rd)

  pub met_second : r ≡ Second → Met old new used a b new (interned b used)
  unfolding follow
  met_second e = by_rule Second e new (interned b used) (λ k ka kb. old_ran b rd)

  pub met_bottom : r ≡ Bottom → Met old new used a b new (interned 5 used)
  unfolding follow
  met_bottom e = by_rule Bottom e new (interned 5 used) (λ k ka kb. old_ran 5 rd)

  pub met_ints : r ≡ Ints → (new' : List ℕ) (m : Option Interned) → Runs (λ v. meet_int v a b) old new used new' m → Met old new used a b new' m
  unfolding follow
  met_ints e new' m t = by_rule Ints e new' m (λ k ka kb. t)

  -- floats
  pub float_sizes : r ≡ Floats → (is_size_word (word u (a + 1)) ≡ true) × (is_size_word (word u (b + 1)) ≡ true)
  float_sizes e =
      let s = sure_floats u a b (sym er ∙ e) in
      (size_word (word u (a + 1)) (word u (a + 2)) (of_float rd.good.sound rd.first s.0), size_word (word u (b + 1)) (word u (b + 2)) (of_float rd.good.sound rd.second s.1))

  pub met_floats : r ≡ Floats → (h : ℕ) → h ≡ float_handle a b (float_rule (reading_on u a) (reading_on u b)) → Met old new used a b new (interned h used)
  unfolding follow
  met_floats e h q = by_rule Floats e new (interned h used) (λ k ka kb. rw (← q) (old_ran h rd))

  -- structs
  pub ready_structs : r ≡ Structs → Ready old new used 8 9 a b
  ready_structs e =
      let s = sure_structs u a b (sym er ∙ e) in
      record { over = rd.over; within = rd.within; small = rd.small; cut = rd.cut; near = rd.near; next = rd.next; good = rd.good; first = narrow 8 9 rd.first s.0 s.1; second = narrow 8 9 rd.second s.2 s.3 }

  pub met_structs : r ≡ Structs → (new' : List ℕ) (m : Option Interned) → MetStruct old new used a b new' m → Met old new used a b new' m
  unfolding follow
  met_structs e new' m t = by_rule Structs e new' m (λ k ka kb. t.is k ka kb)

  grew : Grew old new used new used
  grew = grew_none rd.good rd.within

  -- two parts x and y that are met
  module _ (low high x y : ℕ) (px : Part u a 33 low high x) (py : Part u b 33 low high y) where
    ready_parts : Ready old new used low high x y
    ready_parts = record {
      over = rd.over;
      within = rd.within;
      small = rd.small;
      cut = rd.cut;
      near = omega (arith, px.earlier, rd.near);
      next = omega (arith, py.earlier, rd.next);
      good = rd.good;
      first = part_weak used 33 (omega (arith, rd.near)) (omega arith) px;
      second = part_weak used 33 (omega (arith, rd.next)) (omega arith) py;
    }

  -- an entry around one part: `part` is what the part's meet gives, and F makes the entry of it
  module _ (X : Rule) (e : r ≡ X) (part : ℕ → Grown) (F : Grown → Grown) (is : (k : ℕ) → follow (meet_within k) u a b X ≡ F (part k)) (F-grows : (g : Grown) → Extends g.words (F g).words)
      (grows : (k : ℕ) → Extends u (part k).words) (adds : Adds u (part (max a b))) (now : List ℕ) (m : Option Interned) (told : (k : ℕ) → a ≤ k → b ≤ k → Ran used (part k) (old ++ new) (old ++ now) m) where
    around_full : m ≡ None → Met old new used a b now None
    around_full f = by_rule X e now None (λ k ka kb. rw (is k) (grew_stop grew (part k) now m (grows k) (told k ka kb) f (F (part k)) (F-grows (part k))))

    module _ (h v : ℕ) (f : m ≡ interned h v) where
      on : Grew old new used now v
      on = grew_more grew (part (max a b)) now m (grows (max a b)) (told (max a b) (omega arith) (omega arith)) h v f adds

      around_segments : Segments old now v
      around_segments = grew_segments on (omega (arith, rd.near)) rd.over rd.cut

      -- what the maker of the entry requires
      around_required : {index : List ℕ} → Covers u index → Segments old now v × Covers (take v (old ++ now)) index
      around_required c = (around_segments, grew_covers on c)

      around_made : (now₂ : List ℕ) (o : Option Interned) → Ran v (F (there (take v (old ++ now)) h)) (old ++ now) (old ++ now₂) o → Met old new used a b now₂ o
      around_made now₂ o l = by_rule X e now₂ o (λ k ka kb. rw (is k) (then_made grew (part k) now m (grows k) (told k ka kb) h v f on (λ w n. F (there w n)) (λ w n. F-grows (there w n)) now₂ o l))

  -- pointers
  module _ (e : r ≡ Pointers) (x y : ℕ) (ex : x ≡ get_or (take used (old ++ new)) (a + 1) 0) (ey : y ≡ get_or (take used (old ++ new)) (b + 1) 0) where
    to_a : Part u a 33 8 9 x
    to_a = let t = of_pointer rd.good.sound rd.first (sure_pointers u a b (sym er ∙ e)).0 in rw ex (part_weak a 33 (omega arith) (omega (arith, flat rd.good.sound rd.first)) t.to)

    to_b : Part u b 33 8 9 y
    to_b = let t = of_pointer rd.good.sound rd.second (sure_pointers u a b (sym er ∙ e)).1 in rw ey (part_weak b 33 (omega arith) (omega (arith, flat rd.good.sound rd.second)) t.to)

    pub pointer_next : (x < a) × (y < b) × Ready old new used 8 9 x y
    pointer_next = (to_a.earlier, to_b.earlier, ready_parts 8 9 x y to_a to_b)

    module _ (now : List ℕ) (m : Option Interned) (t : MetStruct old new used x y now m) where
      abbrev struct : ℕ → Grown
      struct k = meet_struct (meet_within k) u x y

      is_pointer : (k : ℕ) → follow (meet_within k) u a b Pointers ≡ pointer_of (either_nil u a b) (struct k)
      unfolding follow
      is_pointer k = rw (ex, ey)

      struct_grown : (k : ℕ) → Extends u (struct k).words
      struct_grown k = structs_grow (meet_within k) (meet_grows k) u x y

      struct_adds : Adds u (struct (max a b))
      struct_adds =
          let k = max a b in
          (structs_nice (meet_within k) k (meet_nice k) u x y 33 rd.good (part_weak (suc k) 33 (omega arith) (omega arith) to_a) (part_weak (suc k) 33 (omega arith) (omega arith) to_b)).adds

      struct_told : (k : ℕ) → a ≤ k → b ≤ k → Ran used (struct k) (old ++ new) (old ++ now) m
      struct_told k ka kb = t.is k (omega (arith, to_a.earlier)) (omega (arith, to_b.earlier))

      pub pointer_full : m ≡ None → Met old new used a b now None
      pointer_full = around_full Pointers e struct (pointer_of (either_nil u a b)) is_pointer (pointer_grows (either_nil u a b)) struct_grown struct_adds now m struct_told

      module _ (h v : ℕ) (f : m ≡ interned h v) where
        pub pointer_segments : Segments old now v
        pointer_segments = around_segments Pointers e struct (pointer_of (either_nil u a b)) is_pointer (pointer_grows (either_nil u a b)) struct_grown struct_adds now m struct_told h v f

        pub pointer_required : {index : List ℕ} → Covers (take used (old ++ new)) index → Segments old now v × Covers (take v (old ++ now)) index
        pointer_required = around_required Pointers e struct (pointer_of (either_nil u a b)) is_pointer (pointer_grows (either_nil u a b)) struct_grown struct_adds now m struct_told h v f

        pub met_pointers : (p q nil : ℕ) → p ≡ get_or (take used (old ++ new)) (a + 2) 0 → q ≡ get_or (take used (old ++ new)) (b + 2) 0 → nil ≡ max p q → (now₂ : List ℕ) (o : Option Interned) → Runs (λ w. make w (pointer_entry h nil w)) old now v now₂ o → Met old new used a b now₂ o
        met_pointers p q nil ep eq en now₂ o l =
            let n : nil ≡ either_nil u a b = en ∙ rw (ep, eq) in
            around_made Pointers e struct (pointer_of (either_nil u a b)) is_pointer (pointer_grows (either_nil u a b)) struct_grown struct_adds now m struct_told h v f now₂ o (rw n at l)

  -- memories
  module _ (e : r ≡ Memories) (x y : ℕ) (ex : x ≡ get_or (take used (old ++ new)) (a + 2) 0) (ey : y ≡ get_or (take used (old ++ new)) (b + 2) 0) where
    at_a : Part u a 33 1 11 x
    at_a = let t = of_memory rd.good.sound rd.first (sure_memories u a b (sym er ∙ e)).0 in rw ex (part_weak a 33 (omega arith) (omega (arith, flat rd.good.sound rd.first)) t.to)

    at_b : Part u b 33 1 11 y
    at_b = let t = of_memory rd.good.sound rd.second (sure_memories u a b (sym er ∙ e)).1 in rw ey (part_weak b 33 (omega arith) (omega (arith, flat rd.good.sound rd.second)) t.to)

    pub memory_next : (x < a) × (y < b) × Ready old new used 1 11 x y
    memory_next = (at_a.earlier, at_b.earlier, ready_parts 1 11 x y at_a at_b)

    module _ (now : List ℕ) (m : Option Interned) (t : Met old new used x y now m) where
      abbrev type : ℕ → Grown
      type k = meet_within k u x y

      abbrev alias : ℕ
      alias = shared_alias (word u (a + 1)) (word u (b + 1))

      is_memory : (k : ℕ) → follow (meet_within k) u a b Memories ≡ memory_of alias (type k)
      unfolding follow
      is_memory k = rw (ex, ey)

      type_adds : Adds u (type (max a b))
      type_adds =
          let k = max a b in
          (meet_nice k u x y 33 rd.good (part_weak k 33 (omega arith) (omega arith) at_a) (part_weak k 33 (omega arith) (omega arith) at_b)).adds

      type_told : (k : ℕ) → a ≤ k → b ≤ k → Ran used (type k) (old ++ new) (old ++ now) m
      type_told k ka kb = t.is k (omega (arith, at_a.earlier)) (omega (arith, at_b.earlier))

      pub memory_full : m ≡ None → Met old new used a b now None
      memory_full = around_full Memories e type (memory_of alias) is_memory (memory_grows alias) (λ k. meet_grows k u x y) type_adds now m type_told

      module _ (h v : ℕ) (f : m ≡ interned h v) where
        pub memory_segments : Segments old now v
        memory_segments = around_segments Memories e type (memory_of alias) is_memory (memory_grows alias) (λ k. meet_grows k u x y) type_adds now m type_told h v f

        pub memory_required : {index : List ℕ} → Covers (take used (old ++ new)) index → Segments old now v × Covers (take v (old ++ now)) index
        memory_required = around_required Memories e type (memory_of alias) is_memory (memory_grows alias) (λ k. meet_grows k u x y) type_adds now m type_told h v f

        pub met_memories : (p q shared : ℕ) → p ≡ get_or (take used (old ++ new)) (a + 1) 0 → q ≡ get_or (take used (old ++ new)) (b + 1) 0 → shared ≡ shared_alias p q → (now₂ : List ℕ) (o : Option Interned) → Runs (λ w. make w (memory_entry shared h w)) old now v now₂ o → Met old new used a b now₂ o
        met_memories p q shared ep eq en now₂ o l =
            let n : shared ≡ alias = en ∙ rw (ep, eq) in
            around_made Memories e type (memory_of alias) is_memory (memory_grows alias) (λ k. meet_grows k u x y) type_adds now m type_told h v f now₂ o (rw n at l)

  -- tuples
  module _ (e : r ≡ Tuples) where
    sure : (kind_on u a ≡ 7) × (kind_on u b ≡ 7) × (count_on u a ≡ count_on u b)
    sure = sure_tuples u a b (sym er ∙ e)

    module _ (x : ℕ) (ex : x ≡ get_or (take used (old ++ new)) a 0) where
      pub tuple_few : x / 65536 ≤ 255
      tuple_few = rw ex (few rd.good.sound rd.first)

      pub tuple_begin : (parts : List ℕ) → Going 1 old new used a b (x / 65536) (a + 1) (b + 1) new parts used 0
      tuple_begin parts =
          going_begin 1 old new used a b (x / 65536) (a + 1) (b + 1) parts rd
          (rw ex (shallower rd.good rd.first (every 1 (count_on u a) (a + 1) u) (of_tuple rd.good.sound rd.first sure.0).types))
          (rw (ex, sure.2) (shallower rd.good rd.second (every 1 (count_on u b) (b + 1) u) (of_tuple rd.good.sound rd.second sure.1).types))

      module _ (now parts : List ℕ) (v i : ℕ) (J : Going 1 old new used a b (x / 65536) (a + 1) (b + 1) now parts v i) where
        pub tuple_stop : (more : i < x / 65536) (p q : ℕ) → p ≡ get_or (take used (old ++ now)) (a + 1 + i) 0 → q ≡ get_or (take used (old ++ now)) (b + 1 + i) 0 → (now₂ : List ℕ) (m : Option Interned) → Met old now v p q now₂ m → m ≡ None → Met old new used a b now₂ None
        unfolding follow
        tuple_stop more p q ep eq now₂ m t f = by_rule Tuples e now₂ None (λ k ka kb. rw (← sure.2, ← ex) (going_stop J more (a + 1 + i) (b + 1 + i) p q (omega arith) (omega arith) ep eq t f tuple_of tuple_grows k ka kb))

        pub tuple_end : x / 65536 ≤ i → i ≤ x / 65536 → (now₂ : List ℕ) (m : Option Interned) → Runs (λ w. make w (tuple_entry (take (x / 65536) parts) w)) old now v now₂ m → Met old new used a b now₂ m
        unfolding follow
        tuple_end lo hi now₂ m t = by_rule Tuples e now₂ m (λ k ka kb. rw (← sure.2, ← ex) (going_end J lo hi tuple_of tuple_grows now₂ m t k ka kb))

-- the next part of a tuple
module _ (old new : List ℕ) (used a b n : ℕ) (now parts : List ℕ) (v i : ℕ) (J : Going 1 old new used a b n (a + 1) (b + 1) now parts v i) (more : i < n) (p q : ℕ) (ep : p ≡ get_or (take used (old ++ now)) (a + 1 + i) 0) (eq : q ≡ get_or (take used (old ++ now)) (b + 1 + i) 0) where
  pub tuple_next : (p < a) × (q < b) × Ready old now v 1 11 p q
  tuple_next = (
    going_first J more (a + 1 + i) (b + 1 + i) p q (omega arith) (omega arith) ep eq,
    going_second J more (a + 1 + i) (b + 1 + i) p q (omega arith) (omega arith) ep eq,
    going_ready J more (a + 1 + i) (b + 1 + i) p q (omega arith) (omega arith) ep eq,
  )

  pub tuple_turn : {now₂ : List ℕ} {m : Option Interned} → Met old now v p q now₂ m → (h v' : ℕ) → m ≡ interned h v' → i < length parts → Going 1 old new used a b n (a + 1) (b + 1) now₂ (set parts i h) v' (i + 1)
  tuple_turn t = going_turn J more (a + 1 + i) (b + 1 + i) p q (omega arith) (omega arith) ep eq t

  pub tuple_small : {now₂ : List ℕ} {m : Option Interned} → Met old now v p q now₂ m → (h v' : ℕ) → m ≡ interned h v' → h < 1048576
  tuple_small t = going_small J more (a + 1 + i) (b + 1 + i) p q (omega arith) (omega arith) ep eq t

-- ---- a struct's meet

-- names that stand before h
names_fit : (u : List ℕ) (h : ℕ) → h < 1048576 → (hs : List ℕ) → All (NameAt u h) hs → all (λ x. ltb x 1048576) hs ≡ true
unfolding all
names_fit u h l [] a = refl
names_fit u h l (x ∷ hs) a = and_both (ltb x 1048576) (all (λ y. ltb y 1048576) hs) (lt-ltb x 1048576 (omega (arith, a.0.earlier))) (names_fit u h l hs a.1)

below : {u : List ℕ} {top h : ℕ} → Good u → h < 1048576 → Part u top 33 8 9 h → NamesBelow u h
unfolding every all
below {u} {h = h} g l p = go (eqb (kind_on u h) 8) refl
  where
    go : (t : Bool) → eqb (kind_on u h) 8 ≡ t → NamesBelow u h
    go true e =
        let s = of_struct g.sound p (eqb-true (kind_on u h) 8 e) in
        record { few = few g.sound p; own = omega (arith, s.name.earlier); fields = names_fit u h l (every 3 (count_on u h) (h + 2) u) s.names }
    go false e =
        let no8 = eqb-false (kind_on u h) 8 e in
        let nine : kind_on u h ≡ 9 = omega (arith, p.least, p.most) in
        let n = of_fref g.sound p nine in
        record { few = few g.sound p; own = omega (arith, n.earlier); fields = rw (no_fields g.sound p nine) }

module _ (old new : List ℕ) (used a b : ℕ) (rd : Ready old new used 8 9 a b) where
  -- what the rule's choice requires
  pub names_below : (a < 1048576) × (b < 1048576) × NamesBelow (take used (old ++ new)) a × NamesBelow (take used (old ++ new)) b
  names_below =
      let la : a < 1048576 = omega (arith, rd.near, rd.within, rd.small) in
      let lb : b < 1048576 = omega (arith, rd.next, rd.within, rd.small) in
      (la, lb, below rd.good la rd.first, below rd.good lb rd.second)

  module _ (r : StructRule) (er : r ≡ struct_rule (take used (old ++ new)) a b) where
    abbrev w : List ℕ
    w = take used (old ++ new)

    by_struct : (X : StructRule) → r ≡ X → (new' : List ℕ) (m : Option Interned) → ((k : ℕ) → a ≤ k → b ≤ k → Ran used (follow_struct (meet_within k) w a b X) (old ++ new) (old ++ new') m) → MetStruct old new used a b new' m
    unfolding meet_struct
    by_struct X e new' m f = record { is = λ k ka kb. rw (sym er ∙ e) (f k ka kb) }

    pub met_former : r ≡ Former → MetStruct old new used a b new (interned a used)
    unfolding follow_struct
    met_former e = by_struct Former e new (interned a used) (λ k ka kb. old_ran a rd)

    pub met_latter : r ≡ Latter → MetStruct old new used a b new (interned b used)
    unfolding follow_struct
    met_latter e = by_struct Latter e new (interned b used) (λ k ka kb. old_ran b rd)

    pub met_lowest : r ≡ Lowest → MetStruct old new used a b new (interned 20 used)
    unfolding follow_struct
    met_lowest e = by_struct Lowest e new (interned 20 used) (λ k ka kb. old_ran 20 rd)

    module _ (e : r ≡ Fields) where
      sure_structures : (kind_on w a ≡ 8) × (kind_on w b ≡ 8) × (count_on w a ≡ count_on w b)
      sure_structures =
          let f = sure_fields w a b (sym er ∙ e) in
          let l = rd.first in
          let m = rd.second in
          (eight (kind_on w a) l.least l.most f.0, eight (kind_on w b) m.least m.most f.1, f.2)

      module _ (x : ℕ) (ex : x ≡ get_or (take used (old ++ new)) a 0) where
        pub struct_few : x / 65536 ≤ 255
        struct_few = rw ex (few rd.good.sound rd.first)

        pub struct_begin : (parts : List ℕ) → Going 3 old new used a b (x / 65536) (a + 3) (b + 3) new parts used 0
        struct_begin parts =
            going_begin 3 old new used a b (x / 65536) (a + 3) (b + 3) parts rd
            (rw ex (shallower rd.good rd.first (every 3 (count_on w a) (a + 3) w) (of_struct rd.good.sound rd.first sure_structures.0).types))
            (rw (ex, sure_structures.2) (shallower rd.good rd.second (every 3 (count_on w b) (b + 3) w) (of_struct rd.good.sound rd.second sure_structures.1).types))

        module _ (now parts : List ℕ) (v i : ℕ) (J : Going 3 old new used a b (x / 65536) (a + 3) (b + 3) now parts v i) where
          pub struct_stop : (more : i < x / 65536) (p q : ℕ) → p ≡ get_or (take used (old ++ now)) (a + 3 + 3 * i) 0 → q ≡ get_or (take used (old ++ now)) (b + 3 + 3 * i) 0 → (now₂ : List ℕ) (m : Option Interned) → Met old now v p q now₂ m → m ≡ None → MetStruct old new used a b now₂ None
          unfolding follow_struct
          struct_stop more p q ep eq now₂ m t f = by_struct Fields e now₂ None (λ k ka kb. rw (← sure_structures.2, ← ex) (going_stop J more (a + 3 + 3 * i) (b + 3 + 3 * i) p q refl refl ep eq t f (meet_struct_of a b) (struct_grows a b) k ka kb))

          pub struct_end : x / 65536 ≤ i → i ≤ x / 65536 → (now₂ : List ℕ) (m : Option Interned) → Runs (meet_fields a b (take (x / 65536) parts)) old now v now₂ m → MetStruct old new used a b now₂ m
          unfolding follow_struct
          struct_end lo hi now₂ m t = by_struct Fields e now₂ m (λ k ka kb. rw (← sure_structures.2, ← ex) (going_end J lo hi (meet_struct_of a b) (struct_grows a b) now₂ m t k ka kb))

          -- the aliases of a are still there
          pub struct_values : all is_alias_final (first_flags_on (take v (old ++ now)) (x / 65536) a) ≡ true
          struct_values = grew_values J.turn.grew rd.first sure_structures.0 x ex

-- the next field of a struct
module _ (old new : List ℕ) (used a b n : ℕ) (now parts : List ℕ) (v i : ℕ) (J : Going 3 old new used a b n (a + 3) (b + 3) now parts v i) (more : i < n) (p q : ℕ) (ep : p ≡ get_or (take used (old ++ now)) (a + 3 + 3 * i) 0) (eq : q ≡ get_or (take used (old ++ now)) (b + 3 + 3 * i) 0) where
  pub struct_next : (p < a) × (q < b) × Ready old now v 1 11 p q
  struct_next = (
    going_first J more (a + 3 + 3 * i) (b + 3 + 3 * i) p q refl refl ep eq,
    going_second J more (a + 3 + 3 * i) (b + 3 + 3 * i) p q refl refl ep eq,
    going_ready J more (a + 3 + 3 * i) (b + 3 + 3 * i) p q refl refl ep eq,
  )

  pub struct_turn : {now₂ : List ℕ} {m : Option Interned} → Met old now v p q now₂ m → (h v' : ℕ) → m ≡ interned h v' → i < length parts → Going 3 old new used a b n (a + 3) (b + 3) now₂ (set parts i h) v' (i + 1)
  struct_turn t = going_turn J more (a + 3 + 3 * i) (b + 3 + 3 * i) p q refl refl ep eq t

  pub struct_small : {now₂ : List ℕ} {m : Option Interned} → Met old now v p q now₂ m → (h v' : ℕ) → m ≡ interned h v' → h < 1048576
  struct_small t = going_small J more (a + 3 + 3 * i) (b + 3 + 3 * i) p q refl refl ep eq t
