-- On good used words make_ro adds good entries, and its answer is a type no deeper than the operand; of a struct or a forward reference it
-- is one again. Assumes nothing.
use mathlib.Core.Path.{◌≡◌, refl, sym, ap, ◌∙◌}
use mathlib.Core.Bool.{Bool, true, false, cond, not, ◌&&◌}
use mathlib.Core.Logic.{inl, ⊎_elim}
use mathlib.Core.List.{List, [], ◌∷◌}
use Prim.Native.Nat.{ℕ, zero, suc, ◌+◌, ◌%◌, ◌≤◌}
use native.Mathlib.Omega.{arith}
use borrow.Author.Tests.{eqb-true}
use lib.Dec.{eqb}
use lib.ListN.{length, replicate, length-replicate}
use Rattle.words.specs.Words.{kind_of, count_of}
use Rattle.words.specs.Made.{Grown, there}
use Rattle.words.specs.Columns.{every, word, kind_on, depth_on, count_on}
use Rattle.wellformed.proofs.Bools.{and_left}
use Rattle.call.proofs.Sound.{adds_none, adds_then}
use Rattle.parts.specs.Parts.{Good, Part, All}
use Rattle.parts.proofs.Parts.{few, flat, deep, of_struct, of_pointer, all_map}
use Rattle.parts.proofs.Good.{part_weak, part_used, adds_long, adds_word, good_adds, part_adds, Answers, old_answers}
use Rattle.meet_fields.proofs.Finals.{every_length}
use Rattle.rules.specs.Column.{◌⇒◌∣◌}
use Rattle.meet.specs.Meet.{pointer_of}
use Rattle.meet.proofs.Made.{struct_answers, pointer_answers, answer_late}
use Rattle.meet.proofs.Nice.{EachAnswers, late_on, wide, narrow}
use Rattle.walk.specs.Walk.{Op₁}
use Rattle.walk.proofs.Nice.{Nice₁}
use Rattle.finals.specs.Final.{is_final_of}
use Rattle.make_ro.specs.ReadOnly.{field_type, read_only_each, read_only_field_types, read_only_struct_of, pointer_to, make_ro_within}
use Rattle.make_ro.proofs.Finals.{ones_flags}

module _ (op : Op₁) (k : ℕ) (nice : Nice₁ k op) where
  pub field_nice : (u : List ℕ) (v t d : ℕ) → Good u → Part u k d 1 11 t → Answers u d 1 11 (field_type op u v t)
  field_nice u v t d g p = go (eqb (v % 2) 1)
    where
      go : (f : Bool) → Answers u d 1 11 (cond f (there u t) (op u t))
      go true = old_answers g p
      go false = nice.types u t d g p

  pub each_nice : (u : List ℕ) (d : ℕ) (vs ts : List ℕ) → Good u → All (Part u k d 1 11) ts → length vs ≡ length ts → EachAnswers u d (length ts) (read_only_each op u vs ts)
  unfolding read_only_each
  each_nice u d [] [] g a l = record { adds = adds_none u 0 g.sound; parts = tt; long = refl; new = inl refl }
  each_nice u d [] (t ∷ ts) g a l = absurd (omega arith)
  each_nice u d (v ∷ vs) [] g a l = absurd (omega arith)
  each_nice u d (v ∷ vs) (t ∷ ts) g a l =
      let r = field_nice u v t d g a.0 in
      let f = field_type op u v t in
      let w = f.words in
      let g₁ = good_adds g r.adds in
      let s = each_nice w d vs ts g₁ (all_map (λ z p. part_adds g r.adds p) ts a.1) (omega arith) in
      let x = (read_only_each op w vs ts).words in
      record {
        adds = adds_then u f (there x 0) r.adds s.adds;
        parts = (part_weak (length x) d (adds_long g₁ s.adds) (omega arith) (part_adds g₁ s.adds r.part), s.parts);
        long = ap suc s.long;
        new = late_on u w x f.handle (read_only_each op w vs ts).handles (adds_long g r.adds) r.new s.new;
      }

  module _ (u : List ℕ) (a d : ℕ) (g : Good u) where
    fields_answers : Part u (suc k) d 8 9 a → kind_on u a ≡ 8 → Answers u d 8 9 (read_only_struct_of a (read_only_field_types op u a))
    fields_answers p q =
        let c = count_on u a in
        let sa = of_struct g.sound p q in
        let pa = all_map (λ z x. part_weak k (depth_on u a) (omega (arith, p.earlier)) (omega arith) x) (every 3 c (a + 3) u) sa.types in
        let e = each_nice u (depth_on u a) (every 3 c (a + 4) u) (every 3 c (a + 3) u) g pa (every_length 3 c (a + 4) u ∙ sym (every_length 3 c (a + 3) u)) in
        let long = e.long ∙ every_length 3 c (a + 3) u in
        let m = read_only_field_types op u a in
        let v = m.words in
        let hs = m.handles in
        let g₁ = good_adds g e.adds in
        let head : word v a ≡ word u a = adds_word g e.adds a (part_used g p) in
        let s₁ = of_struct g₁.sound (part_adds g e.adds p) (ap kind_of head ∙ q) in
        let n : count_on v a ≡ length hs = ap count_of head ∙ sym long in
        struct_answers e.adds g₁ (length v) (depth_on u a) (deep g.sound p (omega arith)) (flat g.sound p) d p.shallow
        hs e.parts e.new (omega (arith, few g.sound p, long)) (replicate (length hs) 1) (sym (length-replicate (length hs) 1)) (ones_flags (length hs)) a s₁ n

    -- a pointer: where its struct's handle stays, the struct is old, and nothing was added
    pointer_to_answers : Part u (suc k) d 1 11 a → kind_on u a ≡ 10 → Answers u d 1 11 (pointer_to u a (op u (word u (a + 1))))
    pointer_to_answers p q = go (eqb s.handle x) refl
      where
        x : ℕ
        x = word u (a + 1)

        s : Grown
        s = op u x

        r : Answers u (depth_on u a) 8 9 s
        r = nice.structs u x (depth_on u a) g (part_weak k (depth_on u a) (omega (arith, p.earlier)) (omega arith) (of_pointer g.sound p q).to)

        stays : s.handle ≡ x → s.words ≡ u
        stays e = ⊎_elim (λ (z : s.words ≡ u). z) (λ (l : length u ≤ s.handle). absurd (omega (arith, part_used g (of_pointer g.sound p q).to))) r.new

        go : (t : Bool) → eqb s.handle x ≡ t → Answers u d 1 11 (cond t (there s.words a) (pointer_of (word u (a + 2)) s))
        go true e = rw (stays (eqb-true s.handle x e)) (old_answers g p)
        go false e =
            pointer_answers r.adds (good_adds g r.adds) (length s.words) (depth_on u a) (deep g.sound p (omega arith)) (flat g.sound p) d p.shallow
            s.handle (word u (a + 2)) r.part (answer_late r) (of_pointer g.sound p q).flag

    abbrev step : Bool → Bool → Grown
    step t s = t ⇒ pointer_to u a (op u (word u (a + 1))) ∣ s ⇒ read_only_struct_of a (read_only_field_types op u a) ∣ there u a

    step_types : Part u (suc k) d 1 11 a → (t s : Bool) → eqb (kind_on u a) 10 ≡ t → (s ≡ true → kind_on u a ≡ 8) → Answers u d 1 11 (step t s)
    step_types p true s e f = pointer_to_answers p (eqb-true (kind_on u a) 10 e)
    step_types p false true e f = let k8 = f refl in wide (fields_answers (narrow 8 9 p (omega (arith, k8)) (omega (arith, k8))) k8)
    step_types p false false e f = old_answers g p

    -- of a struct or a forward reference
    step_structs : Part u (suc k) d 8 9 a → (t s : Bool) → eqb (kind_on u a) 10 ≡ t → (s ≡ true → kind_on u a ≡ 8) → Answers u d 8 9 (step t s)
    step_structs p true s e f = absurd (omega (arith, eqb-true (kind_on u a) 10 e, p.most))
    step_structs p false true e f = fields_answers p (f refl)
    step_structs p false false e f = old_answers g p

-- a struct that is not final is a struct
pub struct_kind : (u : List ℕ) (a : ℕ) → (eqb (kind_on u a) 8 && not (is_final_of u a)) ≡ true → kind_on u a ≡ 8
struct_kind u a e = eqb-true (kind_on u a) 8 (and_left (eqb (kind_on u a) 8) (not (is_final_of u a)) e)

pub make_ro_nice : (n : ℕ) → Nice₁ n (make_ro_within n)
unfolding make_ro_within
make_ro_nice zero = record { types = λ u a d g p. absurd (omega (arith, p.earlier)); structs = λ u a d g p. absurd (omega (arith, p.earlier)) }
make_ro_nice (suc n) = record {
  types = λ u a d g p. step_types (make_ro_within n) n (make_ro_nice n) u a d g p (eqb (kind_on u a) 10) (eqb (kind_on u a) 8 && not (is_final_of u a)) refl (struct_kind u a);
  structs = λ u a d g p. step_structs (make_ro_within n) n (make_ro_nice n) u a d g p (eqb (kind_on u a) 10) (eqb (kind_on u a) 8 && not (is_final_of u a)) refl (struct_kind u a);
}
