-- Each way through the walk gives what the definition gives, and leaves a memory of settled answers. Assumes nothing.
use mathlib.Core.Path.{◌≡◌, refl, sym, ◌∙◌}
use mathlib.Core.Bool.{true}
use mathlib.Core.List.{List, ◌++◌}
use Prim.Native.Nat.{ℕ, zero, suc, ◌+◌, ◌*◌, ◌/◌, ◌≤◌, ◌<◌}
use native.Mathlib.Omega.{arith}
use borrow.Author.Tests.{leb-true}
use lib.ListN.{length, take, get_or, set}
use Rattle.words.specs.Made.{Grown, there, make}
use Rattle.words.specs.Ran.{Segments, Ran, Runs}
use Rattle.std.specs.Prelude.{Option, None}
use Rattle.words.specs.Ran.{interned}
use Rattle.words.specs.declared.Interned.{Interned}
use Rattle.words.proofs.Extend.{Extends}
use Rattle.wellformed.specs.Entry.{all, is_alias_final}
use Rattle.words.specs.Columns.{every, word, kind_on, depth_on, count_on}
use Rattle.makers.specs.Entries.{tuple_entry, pointer_entry, memory_entry}
use Rattle.makers.proofs.FloatSize.{size_word}
use Rattle.type_float.specs.Float.{is_size_word}
use Rattle.index.specs.Covers.{Covers}
use Rattle.parts.specs.Parts.{Part, All, ReadyOne}
use Rattle.parts.proofs.Parts.{few, flat, of_tuple, of_struct, of_pointer, of_memory, of_float, all_map}
use Rattle.parts.proofs.Good.{part_weak, part_ready, one_segments}
use Rattle.later.proofs.Right.{right_full, right_same, right_made}
use Rattle.meet.specs.Meet.{Many, tuple_of, pointer_of, memory_of}
use Rattle.meet.proofs.Grows.{tuple_grows, pointer_grows, memory_grows}
use Rattle.meet.proofs.Nice.{narrow}
use Rattle.parts.proofs.Grew.{Grew, grew_none, grew_there, grew_more, grew_stop, grew_segments, grew_values, then_made, grew_covers}
use Rattle.walk_rules.specs.Tables.{form_for, int_of, float_of, nil_of, walk_fields}
use Rattle.walk_rules.specs.declared.Walk.{Walk}
use Rattle.walk_rules.specs.declared.Form.{Form}
use Rattle.walk_rules.specs.declared.Form.TheVariants.{Is, AnInt, AFloat, ATuple, AStruct, APointer, AMemory}
use Rattle.walk_rules.proofs.Sure.{form_floats, form_tuples, form_fields, form_pointers, form_memories}
use Rattle.walk.specs.Walked.{Walked}
use Rattle.walk.specs.Walk.{walk_field_types, walk_struct_of, follow_form, walk_within}
use Rattle.walk.specs.Remembered.{Settled, Remembers}
use Rattle.walk.proofs.Grows.{walk_grows, int_grows, float_grows, struct_grows}
use Rattle.walk.proofs.Nice.{walk_nice}
use Rattle.walk.proofs.Loop.{Going₁, going_begin, going_first, going_ready, going_stop, going_turn, going_small, going_end, going_segments}
use Rattle.walk.proofs.Recall.{Both, settled_stays}

module _ (walk : Walk) (old new : List ℕ) (used a : ℕ) (rd : ReadyOne old new used a) (r : Form) (er : r ≡ form_for walk a (kind_on (take used (old ++ new)) a)) where
  abbrev u : List ℕ
  u = take used (old ++ new)

  grew : Grew old new used new used
  grew = grew_none rd.good rd.within

  by_form : (X : Form) → r ≡ X → (new' : List ℕ) (m : Option Interned) → ((k : ℕ) → a ≤ k → Ran used (follow_form walk (walk_within walk k) u a X) (old ++ new) (old ++ new') m) → Walked walk old new used a new' m
  unfolding walk_within
  by_form X e new' m f = record { is = go }
    where
      go : (n : ℕ) → a < n → Ran used (walk_within walk n (take used (old ++ new)) a) (old ++ new) (old ++ new') m
      go zero h = absurd (omega arith)
      go (suc n) h = rw (sym er ∙ e) (f n (omega arith))

  module _ (memo : List ℕ) (M : Remembers walk (take used (old ++ new)) memo) where
    pub walked_is : (h : ℕ) → r ≡ Is h → Both walk old new used a new (interned h used) memo
    unfolding follow_form
    walked_is h e = (by_form (Is h) e new (interned h used) (λ k ka. grew_there h grew), right_same (Settled walk) M)

    pub walked_ints : r ≡ AnInt → (new' : List ℕ) (m : Option Interned) → Runs (int_of walk a) old new used new' m → Both walk old new used a new' m memo
    unfolding follow_form
    walked_ints e new' m t = (by_form AnInt e new' m (λ k ka. t), right_made (settled_stays walk) (one_segments rd) M (int_of walk a u) (int_grows walk a u) t)

    pub walked_floats : r ≡ AFloat → (new' : List ℕ) (m : Option Interned) → Runs (float_of walk a) old new used new' m → Both walk old new used a new' m memo
    unfolding follow_form
    walked_floats e new' m t = (by_form AFloat e new' m (λ k ka. t), right_made (settled_stays walk) (one_segments rd) M (float_of walk a u) (float_grows walk a u) t)

  pub float_size : r ≡ AFloat → is_size_word (word u (a + 1)) ≡ true
  float_size e = size_word (word u (a + 1)) (word u (a + 2)) (of_float rd.good.sound rd.first (form_floats walk a (kind_on u a) (sym er ∙ e)))

  -- an entry around one part x, which F makes of the part's walk
  module _ (X : Form) (e : r ≡ X) (x : ℕ) (px : Part u a 33 1 11 x) (F : Grown → Grown) (is : (k : ℕ) → follow_form walk (walk_within walk k) u a X ≡ F (walk_within walk k u x)) (F-grows : (g : Grown) → Extends g.words (F g).words) where
    around_next : (x < a) × ReadyOne old new used x
    around_next = part_ready rd px

    module _ (now : List ℕ) (m : Option Interned) (memo : List ℕ) (b : Both walk old new used x now m memo) where
      abbrev part : ℕ → Grown
      part k = walk_within walk k u x

      told : (k : ℕ) → a ≤ k → Ran used (part k) (old ++ new) (old ++ now) m
      told k ka = b.0.is k (omega (arith, px.earlier))

      around_full : m ≡ None → Both walk old new used a now None memo
      around_full f = (by_form X e now None (λ k ka. rw (is k) (grew_stop grew (part k) now m (walk_grows walk k u x) (told k ka) f (F (part k)) (F-grows (part k)))), right_full)

      module _ (h v : ℕ) (f : m ≡ interned h v) where
        on : Grew old new used now v
        on = grew_more grew (part a) now m (walk_grows walk a u x) (told a (omega arith)) h v f ((walk_nice walk a).types u x 33 rd.good px).adds

        around_segments : Segments old now v
        around_segments = grew_segments on (omega (arith, rd.near)) rd.over rd.cut

        -- what the maker of the entry requires
        around_required : {index : List ℕ} → Covers u index → Segments old now v × Covers (take v (old ++ now)) index
        around_required c = (around_segments, grew_covers on c)

        around_made : (now₂ : List ℕ) (o : Option Interned) → Ran v (F (there (take v (old ++ now)) h)) (old ++ now) (old ++ now₂) o → Both walk old new used a now₂ o memo
        around_made now₂ o l = (by_form X e now₂ o (λ k ka. rw (is k) (then_made grew (part k) now m (walk_grows walk k u x) (told k ka) h v f on (λ w n. F (there w n)) (λ w n. F-grows (there w n)) now₂ o l)), right_made (settled_stays walk) around_segments (b.1.is h v f) (F (there (take v (old ++ now)) h)) (F-grows (there (take v (old ++ now)) h)) l)

  -- pointers
  module _ (e : r ≡ APointer) where
    pub pointer_flag : (q : ℕ) → q ≡ get_or (take used (old ++ new)) (a + 2) 0 → q ≤ 1
    pointer_flag q eq = rw eq (leb-true (word u (a + 2)) 1 (of_pointer rd.good.sound rd.first (form_pointers walk a (kind_on u a) (sym er ∙ e))).flag)

    module _ (x : ℕ) (ex : x ≡ get_or (take used (old ++ new)) (a + 1) 0) where
      to_struct : Part u a 33 1 11 x
      to_struct =
          let t = of_pointer rd.good.sound rd.first (form_pointers walk a (kind_on u a) (sym er ∙ e)) in
          let s = t.to in
          rw ex (narrow 1 11 (part_weak a 33 (omega arith) (omega (arith, flat rd.good.sound rd.first)) s) (omega (arith, s.least)) (omega (arith, s.most)))

      abbrev pointing : Grown → Grown
      pointing = pointer_of (nil_of walk (word u (a + 2)))

      is_pointer : (k : ℕ) → follow_form walk (walk_within walk k) u a APointer ≡ pointing (walk_within walk k u x)
      unfolding follow_form
      is_pointer k = rw ex

      pub pointer_next : (x < a) × ReadyOne old new used x
      pointer_next = around_next APointer e x to_struct pointing is_pointer (pointer_grows (nil_of walk (word u (a + 2))))

      module _ (now : List ℕ) (m : Option Interned) (memo : List ℕ) (b : Both walk old new used x now m memo) where
        pub pointer_full : m ≡ None → Both walk old new used a now None memo
        pointer_full = around_full APointer e x to_struct pointing is_pointer (pointer_grows (nil_of walk (word u (a + 2)))) now m memo b

        module _ (h v : ℕ) (f : m ≡ interned h v) where
          pub pointer_required : {index : List ℕ} → Covers (take used (old ++ new)) index → Segments old now v × Covers (take v (old ++ now)) index
          pointer_required = around_required APointer e x to_struct pointing is_pointer (pointer_grows (nil_of walk (word u (a + 2)))) now m memo b h v f

          pub walked_pointers : (q nil : ℕ) → q ≡ get_or (take used (old ++ new)) (a + 2) 0 → nil ≡ nil_of walk q → (now₂ : List ℕ) (o : Option Interned) → Runs (λ z. make z (pointer_entry h nil z)) old now v now₂ o → Both walk old new used a now₂ o memo
          walked_pointers q nil eq en now₂ o l =
              let n : nil ≡ nil_of walk (word u (a + 2)) = en ∙ rw eq in
              around_made APointer e x to_struct pointing is_pointer (pointer_grows (nil_of walk (word u (a + 2)))) now m memo b h v f now₂ o (rw n at l)

  -- memories
  module _ (e : r ≡ AMemory) (x : ℕ) (ex : x ≡ get_or (take used (old ++ new)) (a + 2) 0) where
    to_type : Part u a 33 1 11 x
    to_type =
        let t = of_memory rd.good.sound rd.first (form_memories walk a (kind_on u a) (sym er ∙ e) rd.first.most) in
        rw ex (part_weak a 33 (omega arith) (omega (arith, flat rd.good.sound rd.first)) t.to)

    abbrev keeping : Grown → Grown
    keeping = memory_of (word u (a + 1))

    is_memory : (k : ℕ) → follow_form walk (walk_within walk k) u a AMemory ≡ keeping (walk_within walk k u x)
    unfolding follow_form
    is_memory k = rw ex

    pub memory_next : (x < a) × ReadyOne old new used x
    memory_next = around_next AMemory e x to_type keeping is_memory (memory_grows (word u (a + 1)))

    module _ (now : List ℕ) (m : Option Interned) (memo : List ℕ) (b : Both walk old new used x now m memo) where
      pub memory_full : m ≡ None → Both walk old new used a now None memo
      memory_full = around_full AMemory e x to_type keeping is_memory (memory_grows (word u (a + 1))) now m memo b

      module _ (h v : ℕ) (f : m ≡ interned h v) where
        pub memory_required : {index : List ℕ} → Covers (take used (old ++ new)) index → Segments old now v × Covers (take v (old ++ now)) index
        memory_required = around_required AMemory e x to_type keeping is_memory (memory_grows (word u (a + 1))) now m memo b h v f

        pub walked_memories : (alias : ℕ) → alias ≡ get_or (take used (old ++ new)) (a + 1) 0 → (now₂ : List ℕ) (o : Option Interned) → Runs (λ z. make z (memory_entry alias h z)) old now v now₂ o → Both walk old new used a now₂ o memo
        walked_memories alias eq now₂ o l = around_made AMemory e x to_type keeping is_memory (memory_grows (word u (a + 1))) now m memo b h v f now₂ o (rw eq at l)

  -- parts below 33
  shallower : (hs : List ℕ) → All (Part u a (depth_on u a) 1 11) hs → All (Part u a 33 1 11) hs
  shallower hs = all_map (λ z q. part_weak a 33 (omega arith) (omega (arith, flat rd.good.sound rd.first)) q) hs

  module _ (x : ℕ) (ex : x ≡ get_or (take used (old ++ new)) a 0) where
    pub walk_few : x / 65536 ≤ 255
    walk_few = rw ex (few rd.good.sound rd.first)

    -- tuples
    module _ (e : r ≡ ATuple) where
      pub tuple_begin : (parts : List ℕ) → Going₁ walk 1 old new used a (x / 65536) (a + 1) new parts used 0
      tuple_begin parts =
          going_begin walk 1 old new used a (x / 65536) (a + 1) parts rd
          (rw ex (shallower (every 1 (count_on u a) (a + 1) u) (of_tuple rd.good.sound rd.first (form_tuples walk a (kind_on u a) (sym er ∙ e))).types))

      module _ (now parts : List ℕ) (v i : ℕ) (J : Going₁ walk 1 old new used a (x / 65536) (a + 1) now parts v i) where
        pub tuple_stop : (more : i < x / 65536) (p : ℕ) → p ≡ get_or (take used (old ++ now)) (a + 1 + i) 0 → (now₂ : List ℕ) (m : Option Interned) → Walked walk old now v p now₂ m → m ≡ None → (memo : List ℕ) → Both walk old new used a now₂ None memo
        unfolding follow_form
        tuple_stop more p ep now₂ m t f memo = (by_form ATuple e now₂ None (λ k ka. rw (← ex) (going_stop J more (a + 1 + i) p (omega arith) ep t f tuple_of tuple_grows k ka)), right_full)

        pub tuple_end : x / 65536 ≤ i → i ≤ x / 65536 → (now₂ : List ℕ) (m : Option Interned) → Runs (λ z. make z (tuple_entry (take (x / 65536) parts) z)) old now v now₂ m → (memo : List ℕ) → Remembers walk (take v (old ++ now)) memo → Both walk old new used a now₂ m memo
        unfolding follow_form
        tuple_end lo hi now₂ m t memo M = let many : Many = record { words = take v (old ++ now); handles = take (x / 65536) parts } in (by_form ATuple e now₂ m (λ k ka. rw (← ex) (going_end J lo hi tuple_of tuple_grows now₂ m t k ka)), right_made (settled_stays walk) (going_segments J) M (tuple_of many) (tuple_grows many) t)

    -- structs
    module _ (e : r ≡ AStruct) where
      is_struct_is : kind_on u a ≡ 8
      is_struct_is = form_fields walk a (kind_on u a) (sym er ∙ e)

      pub struct_begin : (parts : List ℕ) → Going₁ walk 3 old new used a (x / 65536) (a + 3) new parts used 0
      struct_begin parts =
          going_begin walk 3 old new used a (x / 65536) (a + 3) parts rd
          (rw ex (shallower (every 3 (count_on u a) (a + 3) u) (of_struct rd.good.sound rd.first is_struct_is).types))

      module _ (now parts : List ℕ) (v i : ℕ) (J : Going₁ walk 3 old new used a (x / 65536) (a + 3) now parts v i) where
        pub struct_stop : (more : i < x / 65536) (p : ℕ) → p ≡ get_or (take used (old ++ now)) (a + 3 + 3 * i) 0 → (now₂ : List ℕ) (m : Option Interned) → Walked walk old now v p now₂ m → m ≡ None → (memo : List ℕ) → Both walk old new used a now₂ None memo
        unfolding follow_form
        struct_stop more p ep now₂ m t f memo = (by_form AStruct e now₂ None (λ k ka. rw (← ex) (going_stop J more (a + 3 + 3 * i) p refl ep t f (walk_struct_of walk a) (struct_grows walk a) k ka)), right_full)

        pub struct_end : x / 65536 ≤ i → i ≤ x / 65536 → (now₂ : List ℕ) (m : Option Interned) → Runs (walk_fields walk a (take (x / 65536) parts)) old now v now₂ m → (memo : List ℕ) → Remembers walk (take v (old ++ now)) memo → Both walk old new used a now₂ m memo
        unfolding follow_form
        struct_end lo hi now₂ m t memo M = let many : Many = record { words = take v (old ++ now); handles = take (x / 65536) parts } in (by_form AStruct e now₂ m (λ k ka. rw (← ex) (going_end J lo hi (walk_struct_of walk a) (struct_grows walk a) now₂ m t k ka)), right_made (settled_stays walk) (going_segments J) M (walk_struct_of walk a many) (struct_grows walk a many) t)

        -- the aliases of a are still there
        pub struct_values : all is_alias_final (every 3 (x / 65536) (a + 4) (take v (old ++ now))) ≡ true
        struct_values = grew_values J.turn.grew rd.first is_struct_is x ex

-- the next part, p₀ words behind a and s apart
module _ (walk : Walk) (s off : ℕ) (old new : List ℕ) (used a n : ℕ) (now parts : List ℕ) (v i : ℕ) (J : Going₁ walk s old new used a n (a + off) now parts v i) (more : i < n) (at p : ℕ) (ea : at ≡ a + off + s * i) (ep : p ≡ get_or (take used (old ++ now)) at 0) where
  pub part_next : (p < a) × ReadyOne old now v p
  part_next = (going_first J more at p ea ep, going_ready J more at p ea ep)

  pub part_turn : {now₂ : List ℕ} {m : Option Interned} → Walked walk old now v p now₂ m → (h v' : ℕ) → m ≡ interned h v' → i < length parts → Going₁ walk s old new used a n (a + off) now₂ (set parts i h) v' (i + 1)
  part_turn t = going_turn J more at p ea ep t

  pub part_small : {now₂ : List ℕ} {m : Option Interned} → Walked walk old now v p now₂ m → (h v' : ℕ) → m ≡ interned h v' → h < 1048576
  part_small t = going_small J more at p ea ep t
