-- On good used words a walk adds good entries, and its answer is a type no deeper than the operand; of a struct or a forward reference it
-- is one again. Assumes nothing.
use mathlib.Core.Path.{◌≡◌, refl, sym, ap, ◌∙◌}
use mathlib.Core.Bool.{Bool, true, false, cond}
use mathlib.Core.Logic.{inl}
use mathlib.Core.List.{List, [], ◌∷◌}
use Prim.Native.Nat.{ℕ, zero, suc, ◌+◌, ◌-◌, ◌≤◌}
use native.Mathlib.Omega.{arith}
use lib.Dec.{eqb}
use lib.ListN.{length}
use Rattle.words.specs.Words.{kind_of, count_of}
use Rattle.words.specs.Made.{there, make}
use Rattle.wellformed.specs.Entry.{float_ok}
use Rattle.words.specs.Columns.{every, word, kind_on, depth_on, count_on}
use Rattle.call.proofs.Sound.{adds_none, adds_then}
use Rattle.type_float.proofs.Size.{each_word}
use Rattle.makers.specs.Entries.{int_entry, float_entry}
use Rattle.makers.proofs.FloatSize.{size_word}
use Rattle.kept.proofs.Fits.{int_fits, float_fits}
use Rattle.parts.specs.Parts.{Good, Part, All}
use Rattle.parts.proofs.Parts.{few, flat, deep, of_tuple, of_struct, of_pointer, of_memory, of_int, of_float, all_map}
use Rattle.parts.proofs.Good.{bot_part, top_part, ctrl_part, xctrl_part, struct_top_part, struct_bot_part, int_top_part, int_bot_part, float_top_part, float_bot_part, part_weak, part_used, adds_long, adds_word, good_adds, part_adds, Answers, old_answers, make_answers}
use Rattle.meet_fields.proofs.Finals.{every_length}
use Rattle.meet.proofs.Made.{tuple_answers, struct_answers, pointer_answers, memory_answers, answer_late}
use Rattle.meet.proofs.Nice.{EachAnswers, late_on, wide, narrow}
use Rattle.walk_rules.specs.Tables.{form_for, int_of, float_of, nil_of, finals_of, walk_fields}
use Rattle.walk_rules.specs.declared.Walk.{Walk}
use Rattle.walk_rules.specs.declared.Walk.TheVariants.{Dual, Glb, Lub}
use Rattle.walk_rules.specs.declared.Form.{Form}
use Rattle.walk_rules.specs.declared.Form.TheVariants.{Is, AnInt, AFloat, ATuple, AStruct, APointer, AMemory}
use Rattle.walk_rules.proofs.Sure.{form_ints, form_floats, form_tuples, form_fields, form_pointers, form_memories, form_is, Known, is_bot, is_top, is_ctrl, is_xctrl, is_struct_top, is_struct_bot, is_itself}
use Rattle.walk_fields.proofs.Finals.{finals_length, finals_flags, nil_flag}
use Rattle.walk.specs.Walk.{Op₁, walk_each, walk_elements, walk_field_types, walk_struct_of, follow_form, walk_within}

-- an operation that gives good answers on handles below k
pub record Nice₁ (k : ℕ) (op : Op₁) : Type 0 where
  pub types : (u : List ℕ) (a d : ℕ) → Good u → Part u k d 1 11 a → Answers u d 1 11 (op u a)
  pub structs : (u : List ℕ) (a d : ℕ) → Good u → Part u k d 8 9 a → Answers u d 8 9 (op u a)

-- a size with its sign changed is a size
pub turned_fits : (size bits : ℕ) → float_ok size bits ≡ true → float_ok (128 - size) 0 ≡ true
unfolding float_ok
turned_fits size bits e = each_word (λ w. float_ok (128 - w) 0 ≡ true) refl refl refl refl refl size (size_word size bits e)

module _ (w : Walk) (u : List ℕ) (k a d : ℕ) (g : Good u) (p : Part u k d 1 11 a) where
  some : 1 ≤ depth_on u a
  some = deep g.sound p (omega arith)

  int_answers : kind_on u a ≡ 5 → Answers u d 1 11 (int_of w a u)
  int_answers q = go w
    where
      go : (v : Walk) → Answers u d 1 11 (int_of v a u)
      go Dual =
          let x = word u (a + 2) in
          let y = word u (a + 1) in
          make_answers d 1 11 (adds_none u 0 g.sound) g (int_entry x y) (int_fits u x y (λ ends. let e = of_int g.sound p q ends in (e.1, e.0))) (inl refl) (omega arith) (omega arith) (omega (arith, some, p.shallow))
      go Glb = old_answers g (int_bot_part g d (omega (arith, some, p.shallow)))
      go Lub = old_answers g (int_top_part g d (omega (arith, some, p.shallow)))

  float_answers : kind_on u a ≡ 6 → Answers u d 1 11 (float_of w a u)
  float_answers q = go w
    where
      size : ℕ
      size = 128 - word u (a + 1)

      ends : (t : Bool) → Answers u d 1 11 (cond t (there u a) (make u (float_entry (128 - word u (a + 1)) 0)))
      ends true = old_answers g p
      ends false =
          let e = turned_fits (word u (a + 1)) (word u (a + 2)) (of_float g.sound p q) in
          make_answers d 1 11 (adds_none u 0 g.sound) g (float_entry (128 - word u (a + 1)) 0) (float_fits u (128 - word u (a + 1)) 0 e) (inl refl) (omega arith) (omega arith) (omega (arith, some, p.shallow))

      go : (v : Walk) → Answers u d 1 11 (float_of v a u)
      go Dual = ends (eqb (word u (a + 1)) 64)
      go Glb = old_answers g (float_bot_part g d (omega (arith, some, p.shallow)))
      go Lub = old_answers g (float_top_part g d (omega (arith, some, p.shallow)))

-- an answer that is a fresh type or the operand
known_answers : (u : List ℕ) (k a d h : ℕ) → Good u → Part u k d 1 11 a → Known a (kind_on u a) h → Answers u d 1 11 (there u h)
known_answers u k a d _ g p (is_bot l) = old_answers g (bot_part g d (omega (arith, deep g.sound p (omega arith), p.shallow)))
known_answers u k a d _ g p (is_top l) = old_answers g (top_part g d (omega (arith, deep g.sound p (omega arith), p.shallow)))
known_answers u k a d _ g p (is_ctrl l) = old_answers g (ctrl_part g d (omega (arith, deep g.sound p (omega arith), p.shallow)))
known_answers u k a d _ g p (is_xctrl l) = old_answers g (xctrl_part g d (omega (arith, deep g.sound p (omega arith), p.shallow)))
known_answers u k a d _ g p (is_struct_top q) = wide (old_answers g (struct_top_part g d (omega (arith, deep g.sound p (omega arith), p.shallow))))
known_answers u k a d _ g p (is_struct_bot q) = wide (old_answers g (struct_bot_part g d (omega (arith, deep g.sound p (omega arith), p.shallow))))
known_answers u k a d _ g p (is_itself q) = old_answers g p

known_structs : (u : List ℕ) (k a d h : ℕ) → Good u → Part u k d 8 9 a → Known a (kind_on u a) h → Answers u d 8 9 (there u h)
known_structs u k a d _ g p (is_bot l) = absurd (omega (arith, p.least))
known_structs u k a d _ g p (is_top l) = absurd (omega (arith, p.least))
known_structs u k a d _ g p (is_ctrl l) = absurd (omega (arith, p.least))
known_structs u k a d _ g p (is_xctrl l) = absurd (omega (arith, p.least))
known_structs u k a d _ g p (is_struct_top q) = old_answers g (struct_top_part g d (omega (arith, deep g.sound p (omega arith), p.shallow)))
known_structs u k a d _ g p (is_struct_bot q) = old_answers g (struct_bot_part g d (omega (arith, deep g.sound p (omega arith), p.shallow)))
known_structs u k a d _ g p (is_itself q) = old_answers g p

module _ (op : Op₁) (k : ℕ) (nice : Nice₁ k op) where
  pub each_nice : (u : List ℕ) (d : ℕ) (xs : List ℕ) → Good u → All (Part u k d 1 11) xs → EachAnswers u d (length xs) (walk_each op u xs)
  unfolding walk_each
  each_nice u d [] g a = record { adds = adds_none u 0 g.sound; parts = tt; long = refl; new = inl refl }
  each_nice u d (x ∷ xs) g a =
      let r = nice.types u x d g a.0 in
      let w = (op u x).words in
      let g₁ = good_adds g r.adds in
      let s = each_nice w d xs g₁ (all_map (λ z p. part_adds g r.adds p) xs a.1) in
      let v = (walk_each op w xs).words in
      record {
        adds = adds_then u (op u x) (there v 0) r.adds s.adds;
        parts = (part_weak (length v) d (adds_long g₁ s.adds) (omega arith) (part_adds g₁ s.adds r.part), s.parts);
        long = ap suc s.long;
        new = late_on u w v (op u x).handle (walk_each op w xs).handles (adds_long g r.adds) r.new s.new;
      }

  -- the parts of an entry, s words apart
  pub each_part : (u : List ℕ) (a s n p : ℕ) → Good u → a ≤ k → All (Part u a (depth_on u a) 1 11) (every s n p u) → EachAnswers u (depth_on u a) n (walk_each op u (every s n p u))
  each_part u a s n p g la pa =
      let e = each_nice u (depth_on u a) (every s n p u) g (all_map (λ z x. part_weak k (depth_on u a) la (omega arith) x) (every s n p u) pa) in
      record { adds = e.adds; parts = e.parts; long = e.long ∙ every_length s n p u; new = e.new }

  module _ (w : Walk) (u : List ℕ) (a d : ℕ) (g : Good u) where
    fields_answers : Part u (suc k) d 8 9 a → kind_on u a ≡ 8 → Answers u d 8 9 (walk_struct_of w a (walk_field_types op u a))
    unfolding walk_fields
    fields_answers p q =
        let sa = of_struct g.sound p q in
        let e = each_part u a 3 (count_on u a) (a + 3) g (omega (arith, p.earlier)) sa.types in
        let m = walk_field_types op u a in
        let v = m.words in
        let hs = m.handles in
        let g₁ = good_adds g e.adds in
        let head : word v a ≡ word u a = adds_word g e.adds a (part_used g p) in
        let s₁ = of_struct g₁.sound (part_adds g e.adds p) (ap kind_of head ∙ q) in
        let n : count_on v a ≡ length hs = ap count_of head ∙ sym e.long in
        let vs = every 3 (length hs) (a + 4) v in
        let same : length hs ≡ length (finals_of w vs) = sym (finals_length w vs ∙ every_length 3 (length hs) (a + 4) v) in
        struct_answers e.adds g₁ (length v) (depth_on u a) (deep g.sound p (omega arith)) (flat g.sound p) d p.shallow
        hs e.parts e.new (omega (arith, few g.sound p, e.long)) (finals_of w vs) same (finals_flags w vs) a s₁ n

    follow_types : Part u (suc k) d 1 11 a → (f : Form) → form_for w a (kind_on u a) ≡ f → Answers u d 1 11 (follow_form w op u a f)
    unfolding follow_form
    follow_types p (Is h) q = known_answers u (suc k) a d h g p (form_is w a (kind_on u a) h q)
    follow_types p AnInt q = int_answers w u (suc k) a d g p (form_ints w a (kind_on u a) q)
    follow_types p AFloat q = float_answers w u (suc k) a d g p (form_floats w a (kind_on u a) q)
    follow_types p ATuple q =
        let ta = of_tuple g.sound p (form_tuples w a (kind_on u a) q) in
        let e = each_part u a 1 (count_on u a) (a + 1) g (omega (arith, p.earlier)) ta.types in
        let m = walk_elements op u a in
        tuple_answers e.adds (good_adds g e.adds) (length m.words) (depth_on u a) (deep g.sound p (omega arith)) (flat g.sound p) d p.shallow
        m.handles e.parts e.new (omega (arith, few g.sound p, e.long))
    follow_types p AStruct q =
        let k8 = form_fields w a (kind_on u a) q in
        wide (fields_answers (narrow 8 9 p (omega (arith, k8)) (omega (arith, k8))) k8)
    follow_types p APointer q =
        let ta = of_pointer g.sound p (form_pointers w a (kind_on u a) q) in
        let x = word u (a + 1) in
        let s = op u x in
        let r = nice.structs u x (depth_on u a) g (part_weak k (depth_on u a) (omega (arith, p.earlier)) (omega arith) ta.to) in
        pointer_answers r.adds (good_adds g r.adds) (length s.words) (depth_on u a) (deep g.sound p (omega arith)) (flat g.sound p) d p.shallow
        s.handle (nil_of w (word u (a + 2))) r.part (answer_late r) (nil_flag w (word u (a + 2)) ta.flag)
    follow_types p AMemory q =
        let ta = of_memory g.sound p (form_memories w a (kind_on u a) q p.most) in
        let x = word u (a + 2) in
        let s = op u x in
        let r = nice.types u x (depth_on u a) g (part_weak k (depth_on u a) (omega (arith, p.earlier)) (omega arith) ta.to) in
        memory_answers r.adds (good_adds g r.adds) (length s.words) (depth_on u a) (deep g.sound p (omega arith)) (flat g.sound p) d p.shallow
        (word u (a + 1)) s.handle r.part (answer_late r) ta.alias

    -- of a struct or a forward reference
    follow_structs : Part u (suc k) d 8 9 a → (f : Form) → form_for w a (kind_on u a) ≡ f → Answers u d 8 9 (follow_form w op u a f)
    unfolding follow_form
    follow_structs p (Is h) q = known_structs u (suc k) a d h g p (form_is w a (kind_on u a) h q)
    follow_structs p AnInt q = absurd (omega (arith, form_ints w a (kind_on u a) q, p.least))
    follow_structs p AFloat q = absurd (omega (arith, form_floats w a (kind_on u a) q, p.least))
    follow_structs p ATuple q = absurd (omega (arith, form_tuples w a (kind_on u a) q, p.least))
    follow_structs p AStruct q = fields_answers p (form_fields w a (kind_on u a) q)
    follow_structs p APointer q = absurd (omega (arith, form_pointers w a (kind_on u a) q, p.most))
    follow_structs p AMemory q = absurd (omega (arith, form_memories w a (kind_on u a) q (omega (arith, p.most)), p.most))

pub walk_nice : (w : Walk) (n : ℕ) → Nice₁ n (walk_within w n)
unfolding walk_within
walk_nice w zero = record { types = λ u a d g p. absurd (omega (arith, p.earlier)); structs = λ u a d g p. absurd (omega (arith, p.earlier)) }
walk_nice w (suc n) = record {
  types = λ u a d g p. follow_types (walk_within w n) n (walk_nice w n) w u a d g p (form_for w a (kind_on u a)) refl;
  structs = λ u a d g p. follow_structs (walk_within w n) n (walk_nice w n) w u a d g p (form_for w a (kind_on u a)) refl;
}
