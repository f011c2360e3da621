-- Every n above both handles gives the same meet: n only bounds the recursion. Assumes nothing.
use mathlib.Core.Path.{◌≡◌, refl, ap}
use mathlib.Core.List.{List, [], ◌∷◌}
use Prim.Native.Nat.{ℕ, zero, suc, ◌+◌, ◌≤◌, ◌<◌, max}
use native.Mathlib.Omega.{arith}
use Rattle.words.specs.Columns.{every, word, kind_on, depth_on, count_on}
use Rattle.call.specs.Adds.{Adds}
use Rattle.parts.specs.Parts.{Good, Part, All}
use Rattle.parts.proofs.Parts.{of_tuple, of_struct, of_pointer, of_memory, all_map}
use Rattle.parts.proofs.Good.{part_weak, part_below, good_adds, part_adds}
use Rattle.meet_rules.specs.Rules.{type_rule, struct_rule, shared_alias}
use Rattle.meet_rules.specs.declared.Rule.{Rule}
use Rattle.meet_rules.specs.declared.Rule.TheVariants.{First, Second, Bottom, Ints, Floats, Tuples, Structs, Pointers, Memories}
use Rattle.meet_rules.specs.declared.StructRule.{StructRule}
use Rattle.meet_rules.specs.declared.StructRule.TheVariants.{Former, Latter, Lowest, Fields}
use Rattle.meet_rules.proofs.Sure.{sure_tuples, sure_structs, sure_pointers, sure_memories, sure_fields}
use Rattle.meet.specs.Meet.{Op, led, meet_each, tuple_of, meet_struct_of, follow_struct, meet_struct, either_nil, pointer_of, memory_of, follow, meet_within}
use Rattle.meet.proofs.Nice.{narrow, eight, meet_nice}

-- two operations that are the same at all types before k of all good used words; the first adds entries, so that the words it leaves are good again
abbrev Agree : ℕ → Op → Op → Type 0
Agree k op op' = (u : List ℕ) (x y d : ℕ) → Good u → Part u k d 1 11 x → Part u k d 1 11 y → Adds u (op u x y) × (op u x y ≡ op' u x y)

module _ (op op' : Op) (k : ℕ) (agree : Agree k op op') where
  each_same : (u : List ℕ) (d : ℕ) (xs ys : List ℕ) → Good u → All (Part u k d 1 11) xs → All (Part u k d 1 11) ys → meet_each op u xs ys ≡ meet_each op' u xs ys
  unfolding meet_each
  each_same u d [] ys g a b = refl
  each_same u d (x ∷ xs) [] g a b = refl
  each_same u d (x ∷ xs) (y ∷ ys) g a b =
      let r = agree u x y d g a.0 b.0 in
      let s = each_same (op u x y).words d xs ys (good_adds g r.0) (all_map (λ z p. part_adds g r.0 p) xs a.1) (all_map (λ z p. part_adds g r.0 p) ys b.1) in
      rw (← r.1) (ap (led (op u x y).handle) s)

  module _ (u : List ℕ) (g : Good u) (a b d : ℕ) where
    -- the parts of two entries, s words apart
    pairs_same : (s n m p q : ℕ) → a ≤ k → b ≤ k → All (Part u a (depth_on u a) 1 11) (every s n p u) → All (Part u b (depth_on u b) 1 11) (every s m q u) → meet_each op u (every s n p u) (every s m q u) ≡ meet_each op' u (every s n p u) (every s m q u)
    pairs_same s n m p q la lb pa pb =
        let D = max (depth_on u a) (depth_on u b) in
        each_same u D (every s n p u) (every s m q u) g (all_map (λ z x. part_weak k D la (omega arith) x) (every s n p u) pa) (all_map (λ z x. part_weak k D lb (omega arith) x) (every s m q u) pb)

    struct_by : Part u (suc k) d 8 9 a → Part u (suc k) d 8 9 b → (r : StructRule) → struct_rule u a b ≡ r → follow_struct op u a b r ≡ follow_struct op' u a b r
    unfolding follow_struct
    struct_by pa pb Former q = refl
    struct_by pa pb Latter q = refl
    struct_by pa pb Lowest q = refl
    struct_by pa pb Fields q =
        let f = sure_fields u a b q in
        let sa = of_struct g.sound pa (eight (kind_on u a) pa.least pa.most f.0) in
        let sb = of_struct g.sound pb (eight (kind_on u b) pb.least pb.most f.1) in
        ap (meet_struct_of a b) (pairs_same 3 (count_on u a) (count_on u b) (a + 3) (b + 3) (omega (arith, pa.earlier)) (omega (arith, pb.earlier)) sa.types sb.types)

  structs_same : (u : List ℕ) → Good u → (a b d : ℕ) → Part u (suc k) d 8 9 a → Part u (suc k) d 8 9 b → meet_struct op u a b ≡ meet_struct op' u a b
  unfolding meet_struct
  structs_same u g a b d pa pb = struct_by u g a b d pa pb (struct_rule u a b) refl

  -- what a rule makes of the parts of a and b, which stand before them
  follow_same : (u : List ℕ) → Good u → (a b d : ℕ) → Part u (suc k) d 1 11 a → Part u (suc k) d 1 11 b → (r : Rule) → type_rule u a b ≡ r → follow op u a b r ≡ follow op' u a b r
  unfolding follow
  follow_same u g a b d pa pb First q = refl
  follow_same u g a b d pa pb Second q = refl
  follow_same u g a b d pa pb Bottom q = refl
  follow_same u g a b d pa pb Ints q = refl
  follow_same u g a b d pa pb Floats q = refl
  follow_same u g a b d pa pb Tuples q =
      let s = sure_tuples u a b q in
      let ta = of_tuple g.sound pa s.0 in
      let tb = of_tuple g.sound pb s.1 in
      ap tuple_of (pairs_same u g a b d 1 (count_on u a) (count_on u b) (a + 1) (b + 1) (omega (arith, pa.earlier)) (omega (arith, pb.earlier)) ta.types tb.types)
  follow_same u g a b d pa pb Structs q =
      let s = sure_structs u a b q in
      structs_same u g a b d (narrow 8 9 pa s.0 s.1) (narrow 8 9 pb s.2 s.3)
  follow_same u g a b d pa pb Pointers q =
      let s = sure_pointers u a b q in
      let D = max (depth_on u a) (depth_on u b) in
      let x = part_weak (suc k) D (omega (arith, pa.earlier)) (omega arith) (of_pointer g.sound pa s.0).to in
      let y = part_weak (suc k) D (omega (arith, pb.earlier)) (omega arith) (of_pointer g.sound pb s.1).to in
      ap (pointer_of (either_nil u a b)) (structs_same u g (word u (a + 1)) (word u (b + 1)) D x y)
  follow_same u g a b d pa pb Memories q =
      let s = sure_memories u a b q in
      let D = max (depth_on u a) (depth_on u b) in
      let x = part_weak k D (omega (arith, pa.earlier)) (omega arith) (of_memory g.sound pa s.0).to in
      let y = part_weak k D (omega (arith, pb.earlier)) (omega arith) (of_memory g.sound pb s.1).to in
      ap (memory_of (shared_alias (word u (a + 1)) (word u (b + 1)))) (agree u (word u (a + 2)) (word u (b + 2)) D g x y).1

-- a and b are any types of good used words
pub meet_any : {u : List ℕ} → Good u → {a b k d : ℕ} → Part u k d 1 11 a → Part u k d 1 11 b → (m n : ℕ) → a < m → b < m → a < n → b < n → meet_within m u a b ≡ meet_within n u a b
unfolding meet_within
meet_any g pa pb zero n la lb ra rb = absurd (omega arith)
meet_any g pa pb (suc m) zero la lb ra rb = absurd (omega arith)
meet_any {u} g {a} {b} {d = d} pa pb (suc m) (suc n) la lb ra rb =
    let k = max a b in
    follow_same (meet_within m) (meet_within n) k
    (λ v x y e h p q. (
      (meet_nice m v x y e h (part_below m (omega (arith, p.earlier)) p) (part_below m (omega (arith, q.earlier)) q)).adds,
      meet_any {u = v} h {a = x} {b = y} p q m n (omega (arith, p.earlier)) (omega (arith, q.earlier)) (omega (arith, p.earlier)) (omega (arith, q.earlier)),
    ))
    u g a b d (part_below (suc k) (omega arith) pa) (part_below (suc k) (omega arith) pb) (type_rule u a b) refl
