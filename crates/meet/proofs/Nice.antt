-- On good used words meet adds good entries, and its answer is a type no deeper than the operands. Assumes nothing.
use mathlib.Core.Path.{◌≡◌, refl, sym, ap, ◌∙◌}
use mathlib.Core.Bool.{Bool, true, false, cond}
use mathlib.Core.Logic.{◌⊎◌, inl, inr, ⊎_elim}
use mathlib.Core.List.{List, [], ◌∷◌}
use Prim.Native.Nat.{ℕ, zero, suc, ◌+◌, ◌^◌, ◌≤◌, ◌<◌, max}
use native.Mathlib.Omega.{arith}
use borrow.Author.Tests.{le-leb, leb-true}
use lib.Dec.{eqb}
use lib.ListN.{length}
use Rattle.words.specs.Made.{Grown, there}
use Rattle.words.specs.Words.{kind_of, count_of}
use Rattle.words.specs.Table.{entries}
use Rattle.wellformed.specs.Entry.{is_flag, is_alias}
use Rattle.words.specs.Columns.{every, word, kind_on, depth_on, count_on, first_flags_on}
use Rattle.call.specs.Keep.{Ends}
use Rattle.call.specs.Adds.{Adds}
use Rattle.call.proofs.Sound.{adds_none, adds_then}
use Rattle.type_integer.specs.Signed.{less, smaller, larger}
use Rattle.float_meet.specs.FloatRule.{float_rule}
use Rattle.float_meet.specs.declared.FloatMeet.{FloatMeet}
use Rattle.float_meet.specs.declared.FloatMeet.TheVariants as FloatMeet-variants
use Rattle.makers.specs.Entries.{int_entry}
use Rattle.kept.proofs.Fits.{int_fits}
use Rattle.parts.specs.Parts.{Good, Part, All}
use Rattle.parts.proofs.Parts.{few, flat, deep, of_tuple, of_struct, of_pointer, of_memory, of_int, all_map}
use Rattle.parts.proofs.Good.{bot_part, struct_bot_part, float_b32_part, float_bot_part, part_weak, part_used, adds_long, adds_word, good_adds, part_adds, Answers, old_answers, make_answers, Late, Any}
use Rattle.meet_rules.specs.Rules.{type_rule, struct_rule, reading_on, float_handle, shared_alias}
use Rattle.meet_rules.specs.declared.Rule.{Rule}
use Rattle.meet_rules.specs.declared.Rule.TheVariants.{First, Second, Bottom, Ints, Floats, Tuples, Structs, Pointers, Memories}
use Rattle.meet_rules.specs.declared.StructRule.{StructRule}
use Rattle.meet_rules.specs.declared.StructRule.TheVariants.{Former, Latter, Lowest, Fields}
use Rattle.meet_rules.proofs.Sure.{chosen, sure_ints, sure_tuples, sure_structs, sure_pointers, sure_memories, sure_fields}
use Rattle.meet_fields.specs.Fields.{either_final, meet_fields}
use Rattle.meet_fields.proofs.Finals.{every_length, either_length, either_flags}
use Rattle.meet.specs.Meet.{Op, Many, meet_each, meet_elements, meet_field_types, follow_struct, meet_struct, either_nil, follow, meet_within}
use Rattle.meet.proofs.Made.{tuple_answers, struct_answers, pointer_answers, memory_answers, answer_late}

-- an operation that gives good answers on handles below k
abbrev pub Nice : ℕ → ℕ → ℕ → Op → Type 0
Nice low high k op = (u : List ℕ) (a b d : ℕ) → Good u → Part u k d low high a → Part u k d low high b → Answers u d low high (op u a b)

-- the same for parts one after another
pub record EachAnswers (u : List ℕ) (d n : ℕ) (m : Many) : Type 0 where
  pub adds : Adds u (there m.words 0)
  pub parts : All (Part m.words (length m.words) d 1 11) m.handles
  pub long : length m.handles ≡ n
  pub new : Late u m.words m.handles

-- a struct or a forward reference is a type
pub wide : {u : List ℕ} {d : ℕ} {g : Grown} → Answers u d 8 9 g → Answers u d 1 11 g
wide r = let p = r.part in record { adds = r.adds; part = record { entry = p.entry; earlier = p.earlier; least = omega (arith, p.least); most = omega (arith, p.most); shallow = p.shallow }; new = r.new }

pub narrow : {u : List ℕ} {k d low high h : ℕ} (low' high' : ℕ) → Part u k d low high h → low' ≤ kind_on u h → kind_on u h ≤ high' → Part u k d low' high' h
narrow low' high' p a b = record { entry = p.entry; earlier = p.earlier; least = a; most = b; shallow = p.shallow }

-- "the shared alias or 4,294,967,295" is an alias
shared_fits : (x y : ℕ) → is_alias x ≡ true → is_alias (shared_alias x y) ≡ true
shared_fits x y e = go (eqb x y)
  where
    go : (t : Bool) → is_alias (cond t x 4294967295) ≡ true
    go true = e
    go false = refl

-- one of two flags is a flag
either_fits : (x y : ℕ) → is_flag x ≡ true → is_flag y ≡ true → is_flag (max x y) ≡ true
either_fits x y a b = le-leb (max x y) 1 (omega (arith, leb-true x 1 a, leb-true y 1 b))

-- the ends of two Ints' meet are ends of theirs
pub int_ends : (u : List ℕ) (k a b d : ℕ) → Good u → Part u k d 1 11 a → Part u k d 1 11 b → (kind_on u a ≡ 5) × (kind_on u b ≡ 5) → Ends (entries u)
    → (smaller (word u (a + 1)) (word u (b + 1)) < 2 ^ 64) × (larger (word u (a + 2)) (word u (b + 2)) < 2 ^ 64)
int_ends u k a b d g pa pb is ends =
    let x = of_int g.sound pa is.0 ends in
    let y = of_int g.sound pb is.1 ends in (
      chosen (λ w. w < 2 ^ 64) (less (word u (b + 1)) (word u (a + 1))) (λ _. y.0) x.0,
      chosen (λ w. w < 2 ^ 64) (less (word u (a + 2)) (word u (b + 2))) (λ _. y.1) x.1,
    )

-- the answer of two floats is an operand, or a fresh type
float_answers : (u : List ℕ) (k a b d : ℕ) → Good u → Part u k d 1 11 a → Part u k d 1 11 b → (m : FloatMeet) → Answers u d 1 11 (there u (float_handle a b m))
float_answers u k a b d g pa pb FloatMeet-variants.First = old_answers g pa
float_answers u k a b d g pa pb FloatMeet-variants.Second = old_answers g pb
float_answers u k a b d g pa pb FloatMeet-variants.Single = old_answers g (float_b32_part g d (omega (arith, deep g.sound pa (omega arith), pa.shallow)))
float_answers u k a b d g pa pb FloatMeet-variants.Double = old_answers g (float_bot_part g d (omega (arith, deep g.sound pa (omega arith), pa.shallow)))

-- words u that grew to w for a part h, and then to v for the parts hs
pub late_on : (u w v : List ℕ) (h : ℕ) (hs : List ℕ) → length u ≤ length w → (w ≡ u) ⊎ (length u ≤ h) → Late w v hs → Late u v (h ∷ hs)
late_on u w v h hs l first others =
    ⊎_elim
    (λ (q : v ≡ w). ⊎_elim (λ (p : w ≡ u). inl (q ∙ p)) (λ (k : length u ≤ h). inr (inl k)) first)
    (λ (z : Any (λ p. length w ≤ p) hs). inr (inr (below hs z)))
    others
  where
    below : (xs : List ℕ) → Any (λ p. length w ≤ p) xs → Any (λ p. length u ≤ p) xs
    below [] y = y
    below (x ∷ xs) y = ⊎_elim (λ (k : length w ≤ x). inl (omega arith)) (λ z. inr (below xs z)) y

-- of the kinds 8 and 9, a struct's
pub eight : (x : ℕ) → 8 ≤ x → x ≤ 9 → (x ≡ 9 → ⊥) → x ≡ 8
eight x l h no9 = omega arith

module _ (op : Op) (k : ℕ) (nice : Nice 1 11 k op) where
  pub each_nice : (u : List ℕ) (d : ℕ) (xs ys : List ℕ) → Good u → All (Part u k d 1 11) xs → All (Part u k d 1 11) ys → length xs ≡ length ys → EachAnswers u d (length xs) (meet_each op u xs ys)
  unfolding meet_each
  each_nice u d [] ys g a b l = record { adds = adds_none u 0 g.sound; parts = tt; long = refl; new = inl refl }
  each_nice u d (x ∷ xs) [] g a b l = absurd (omega arith)
  each_nice u d (x ∷ xs) (y ∷ ys) g a b l =
      let r = nice u x y d g a.0 b.0 in
      let w = (op u x y).words in
      let g₁ = good_adds g r.adds in
      let s = each_nice w d xs ys g₁ (all_map (λ z p. part_adds g r.adds p) xs a.1) (all_map (λ z p. part_adds g r.adds p) ys b.1) (omega arith) in
      let v = (meet_each op w xs ys).words in
      record {
        adds = adds_then u (op u x y) (there v 0) r.adds s.adds;
        parts = (part_weak (length v) d (adds_long g₁ s.adds) (omega arith) (part_adds g₁ s.adds r.part), s.parts);
        long = ap suc s.long;
        new = late_on u w v (op u x y).handle (meet_each op w xs ys).handles (adds_long g r.adds) r.new s.new;
      }

  -- the parts of two entries, s words apart, as many of the one as of the other
  pub pairs : (u : List ℕ) (a b s n m p q : ℕ) → n ≡ m → Good u → a ≤ k → b ≤ k → All (Part u a (depth_on u a) 1 11) (every s n p u) → All (Part u b (depth_on u b) 1 11) (every s m q u) → EachAnswers u (max (depth_on u a) (depth_on u b)) n (meet_each op u (every s n p u) (every s m q u))
  pairs u a b s n m p q same g la lb pa pb =
      let D = max (depth_on u a) (depth_on u b) in
      let e = each_nice u D (every s n p u) (every s m q u) g (all_map (λ z x. part_weak k D la (omega arith) x) (every s n p u) pa) (all_map (λ z x. part_weak k D lb (omega arith) x) (every s m q u) pb) (every_length s n p u ∙ same ∙ sym (every_length s m q u)) in
      record { adds = e.adds; parts = e.parts; long = e.long ∙ every_length s n p u; new = e.new }

  struct_by : (u : List ℕ) (a b d : ℕ) → Good u → Part u (suc k) d 8 9 a → Part u (suc k) d 8 9 b → (r : StructRule) → struct_rule u a b ≡ r → Answers u d 8 9 (follow_struct op u a b r)
  unfolding follow_struct meet_fields
  struct_by u a b d g pa pb Former q = old_answers g pa
  struct_by u a b d g pa pb Latter q = old_answers g pb
  struct_by u a b d g pa pb Lowest q = old_answers g (struct_bot_part g d (omega (arith, deep g.sound pa (omega arith), pa.shallow)))
  struct_by u a b d g pa pb Fields q =
      let f = sure_fields u a b q in
      let ka : kind_on u a ≡ 8 = eight (kind_on u a) pa.least pa.most f.0 in
      let kb : kind_on u b ≡ 8 = eight (kind_on u b) pb.least pb.most f.1 in
      let sa = of_struct g.sound pa ka in
      let sb = of_struct g.sound pb kb in
      let D = max (depth_on u a) (depth_on u b) in
      let e = pairs u a b 3 (count_on u a) (count_on u b) (a + 3) (b + 3) f.2 g (omega (arith, pa.earlier)) (omega (arith, pb.earlier)) sa.types sb.types in
      let m = meet_field_types op u a b in
      let w = m.words in
      let hs = m.handles in
      let g₁ = good_adds g e.adds in
      let head : word w a ≡ word u a = adds_word g e.adds a (part_used g pa) in
      let s₁ = of_struct g₁.sound (part_adds g e.adds pa) (ap kind_of head ∙ ka) in
      let n : count_on w a ≡ length hs = ap count_of head ∙ sym e.long in
      let same : length hs ≡ length (either_final (first_flags_on w (length hs) a) (first_flags_on w (length hs) b)) =
      sym (either_length (first_flags_on w (length hs) a) (first_flags_on w (length hs) b) (every_length 3 (length hs) (a + 4) w ∙ sym (every_length 3 (length hs) (b + 4) w)) ∙ every_length 3 (length hs) (a + 4) w) in
      struct_answers e.adds g₁ (length w) D (omega (arith, deep g.sound pa (omega arith))) (omega (arith, flat g.sound pa, flat g.sound pb)) d (omega (arith, pa.shallow, pb.shallow))
      hs e.parts e.new (omega (arith, few g.sound pa, e.long)) (either_final (first_flags_on w (length hs) a) (first_flags_on w (length hs) b)) same (either_flags (first_flags_on w (length hs) a) (first_flags_on w (length hs) b)) a s₁ n

  pub structs_nice : Nice 8 9 (suc k) (meet_struct op)
  unfolding meet_struct
  structs_nice u a b d g pa pb = struct_by u a b d g pa pb (struct_rule u a b) refl

  follow_nice : (u : List ℕ) (a b d : ℕ) → Good u → Part u (suc k) d 1 11 a → Part u (suc k) d 1 11 b → (r : Rule) → type_rule u a b ≡ r → Answers u d 1 11 (follow op u a b r)
  unfolding follow
  follow_nice u a b d g pa pb First q = old_answers g pa
  follow_nice u a b d g pa pb Second q = old_answers g pb
  follow_nice u a b d g pa pb Bottom q = old_answers g (bot_part g d (omega (arith, deep g.sound pa (omega arith), pa.shallow)))
  follow_nice u a b d g pa pb Ints q =
      let x = smaller (word u (a + 1)) (word u (b + 1)) in
      let y = larger (word u (a + 2)) (word u (b + 2)) in
      make_answers d 1 11 (adds_none u 0 g.sound) g (int_entry x y) (int_fits u x y (int_ends u (suc k) a b d g pa pb (sure_ints u a b q))) (inl refl) (omega arith) (omega arith) (omega (arith, deep g.sound pa (omega arith), pa.shallow))
  follow_nice u a b d g pa pb Floats q = float_answers u (suc k) a b d g pa pb (float_rule (reading_on u a) (reading_on u b))
  follow_nice u a b d g pa pb Tuples q =
      let s = sure_tuples u a b q in
      let ta = of_tuple g.sound pa s.0 in
      let tb = of_tuple g.sound pb s.1 in
      let D = max (depth_on u a) (depth_on u b) in
      let e = pairs u a b 1 (count_on u a) (count_on u b) (a + 1) (b + 1) s.2 g (omega (arith, pa.earlier)) (omega (arith, pb.earlier)) ta.types tb.types in
      let m = meet_elements op u a b in
      tuple_answers e.adds (good_adds g e.adds) (length m.words) D (omega (arith, deep g.sound pa (omega arith))) (omega (arith, flat g.sound pa, flat g.sound pb)) d (omega (arith, pa.shallow, pb.shallow))
      m.handles e.parts e.new (omega (arith, few g.sound pa, e.long))
  follow_nice u a b d g pa pb Structs q =
      let s = sure_structs u a b q in
      wide (structs_nice u a b d g (narrow 8 9 pa s.0 s.1) (narrow 8 9 pb s.2 s.3))
  follow_nice u a b d g pa pb Pointers q =
      let s = sure_pointers u a b q in
      let ta = of_pointer g.sound pa s.0 in
      let tb = of_pointer g.sound pb s.1 in
      let D = max (depth_on u a) (depth_on u b) in
      let x = word u (a + 1) in
      let y = word u (b + 1) in
      let w = meet_struct op u x y in
      let r = structs_nice u x y D g (part_weak (suc k) D (omega (arith, pa.earlier)) (omega arith) ta.to) (part_weak (suc k) D (omega (arith, pb.earlier)) (omega arith) tb.to) in
      pointer_answers r.adds (good_adds g r.adds) (length w.words) D (omega (arith, deep g.sound pa (omega arith))) (omega (arith, flat g.sound pa, flat g.sound pb)) d (omega (arith, pa.shallow, pb.shallow))
      w.handle (either_nil u a b) r.part (answer_late r) (either_fits (word u (a + 2)) (word u (b + 2)) ta.flag tb.flag)
  follow_nice u a b d g pa pb Memories q =
      let s = sure_memories u a b q in
      let ta = of_memory g.sound pa s.0 in
      let tb = of_memory g.sound pb s.1 in
      let D = max (depth_on u a) (depth_on u b) in
      let x = word u (a + 2) in
      let y = word u (b + 2) in
      let w = op u x y in
      let alias = shared_alias (word u (a + 1)) (word u (b + 1)) in
      let r = nice u x y D g (part_weak k D (omega (arith, pa.earlier)) (omega arith) ta.to) (part_weak k D (omega (arith, pb.earlier)) (omega arith) tb.to) in
      memory_answers r.adds (good_adds g r.adds) (length w.words) D (omega (arith, deep g.sound pa (omega arith))) (omega (arith, flat g.sound pa, flat g.sound pb)) d (omega (arith, pa.shallow, pb.shallow))
      alias w.handle r.part (answer_late r) (shared_fits (word u (a + 1)) (word u (b + 1)) ta.alias)

pub meet_nice : (n : ℕ) → Nice 1 11 n (meet_within n)
unfolding meet_within
meet_nice zero u a b d g pa pb = absurd (omega (arith, pa.earlier))
meet_nice (suc n) u a b d g pa pb = follow_nice (meet_within n) n (meet_nice n) u a b d g pa pb (type_rule u a b) refl
