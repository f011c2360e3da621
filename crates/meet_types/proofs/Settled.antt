-- Meet of the same operands again, in used words that came later: nothing is appended, and the handle is the same. Assumes nothing.
use mathlib.Core.Path.{◌≡◌, refl, sym, ◌∙◌}
use mathlib.Core.List.{List, [], ◌∷◌}
use Prim.Native.Nat.{ℕ, zero, suc, ◌+◌, ◌*◌, ◌≤◌, max}
use native.Mathlib.Omega.{arith}
use lib.ListN.{length}
use Rattle.words.specs.Kinds.{Tuple, MemPtr, Mem}
use Rattle.words.specs.Words.{words_after}
use Rattle.words.specs.Made.{there}
use Rattle.words.proofs.Walk.{size_pos}
use Rattle.words.proofs.Sizes.{tuple_size, struct_size_is}
use Rattle.words.specs.Columns.{every, word, kind_on, depth_on, count_on, first_flags_on}
use Rattle.type_integer.specs.Signed.{smaller, larger}
use Rattle.makers.specs.Entries.{int_entry}
use Rattle.parts.specs.Parts.{Good, Part, All}
use Rattle.parts.proofs.Parts.{flat, deep, of_tuple, of_struct, of_pointer, of_memory, all_map}
use Rattle.parts.proofs.Good.{part_weak, good_adds, part_adds}
use Rattle.later.specs.Later.{Later}
use Rattle.later.proofs.Later.{later_then, later_adds, part_inside, later_every, later_three, make_again, sized_of, around_again, around_later, remake_again, remake_later}
use Rattle.meet_rules.specs.Rules.{type_rule, struct_rule, shared_alias}
use Rattle.meet_rules.specs.declared.Rule.{Rule}
use Rattle.meet_rules.specs.declared.Rule.TheVariants.{First, Second, Bottom, Ints, Floats, Tuples, Structs, Pointers, Memories}
use Rattle.meet_rules.specs.declared.StructRule.{StructRule}
use Rattle.meet_rules.specs.declared.StructRule.TheVariants.{Former, Latter, Lowest, Fields}
use Rattle.meet_rules.proofs.Sure.{sure_ints, sure_floats, sure_tuples, sure_structs, sure_pointers, sure_memories, sure_fields}
use Rattle.meet_fields.specs.Fields.{either_final, meet_fields}
use Rattle.meet_fields.proofs.Finals.{every_length, either_length}
use Rattle.meet.specs.Meet.{Op, meet_each, meet_elements, meet_field_types, follow_struct, meet_struct, either_nil, follow, meet_within}
use Rattle.meet.proofs.Nice.{Nice, eight, each_nice, pairs, narrow, structs_nice, meet_nice}
use Rattle.meet_types.proofs.Names.{named_at, struct_rule_same}

-- what was answered once is answered ever after, and nothing has to be appended
abbrev pub Settles : ℕ → ℕ → ℕ → Op → Type 0
Settles low high k op = (u : List ℕ) (a b d : ℕ) → Good u → Part u k d low high a → Part u k d low high b → (v : List ℕ) → Later (op u a b).words v → op v a b ≡ there v (op u a b).handle

module _ (op : Op) (k : ℕ) (nice : Nice 1 11 k op) (settles : Settles 1 11 k op) where
  each_settled : (u : List ℕ) (d : ℕ) (xs ys : List ℕ) → Good u → All (Part u k d 1 11) xs → All (Part u k d 1 11) ys → length xs ≡ length ys → (v : List ℕ) → Later (meet_each op u xs ys).words v → meet_each op v xs ys ≡ record { words = v; handles = (meet_each op u xs ys).handles }
  unfolding meet_each
  each_settled u d [] ys g a b l v x = refl
  each_settled u d (z ∷ xs) [] g a b l v x = refl
  each_settled u d (z ∷ xs) (y ∷ ys) g a b l v x =
      let r = nice u z y d g a.0 b.0 in
      let w = (op u z y).words in
      let g₁ = good_adds g r.adds in
      let ax = all_map (λ q p. part_adds g r.adds p) xs a.1 in
      let bx = all_map (λ q p. part_adds g r.adds p) ys b.1 in
      let m : length xs ≡ length ys = omega arith in
      let e : op v z y ≡ there v (op u z y).handle = settles u z y d g a.0 b.0 v (later_then (later_adds g₁ (each_nice op k nice w d xs ys g₁ ax bx m).adds) x) in
      let f : meet_each op v xs ys ≡ record { words = v; handles = (meet_each op w xs ys).handles } = each_settled w d xs ys g₁ ax bx m v x in
      rw (e, f)

  -- the parts of two entries, s words apart
  pairs_settled : (u : List ℕ) (a b s n m p q : ℕ) → n ≡ m → Good u → a ≤ k → b ≤ k → All (Part u a (depth_on u a) 1 11) (every s n p u) → All (Part u b (depth_on u b) 1 11) (every s m q u) → (v : List ℕ) → Later (meet_each op u (every s n p u) (every s m q u)).words v
      → meet_each op v (every s n p u) (every s m q u) ≡ record { words = v; handles = (meet_each op u (every s n p u) (every s m q u)).handles }
  pairs_settled u a b s n m p q same g la lb pa pb v x =
      let D = max (depth_on u a) (depth_on u b) in
      each_settled u D (every s n p u) (every s m q u) g (all_map (λ z y. part_weak k D la (omega arith) y) (every s n p u) pa) (all_map (λ z y. part_weak k D lb (omega arith) y) (every s m q u) pb) (every_length s n p u ∙ same ∙ sym (every_length s m q u)) v x

  struct_by : (u : List ℕ) (a b d : ℕ) → Good u → Part u (suc k) d 8 9 a → Part u (suc k) d 8 9 b → (r : StructRule) → struct_rule u a b ≡ r → (v : List ℕ) → Later u v → Later (follow_struct op u a b r).words v → follow_struct op v a b r ≡ there v (follow_struct op u a b r).handle
  unfolding follow_struct meet_fields
  struct_by u a b d g pa pb Former q v z x = refl
  struct_by u a b d g pa pb Latter q v z x = refl
  struct_by u a b d g pa pb Lowest q v z x = refl
  struct_by u a b d g pa pb Fields q v z x =
      let f = sure_fields u a b q in
      let ka : kind_on u a ≡ 8 = eight (kind_on u a) pa.least pa.most f.0 in
      let kb : kind_on u b ≡ 8 = eight (kind_on u b) pb.least pb.most f.1 in
      let sa = of_struct g.sound pa ka in
      let sb = of_struct g.sound pb kb in
      let n = count_on u a in
      let D = max (depth_on u a) (depth_on u b) in
      let la : a ≤ k = omega (arith, pa.earlier) in
      let lb : b ≤ k = omega (arith, pb.earlier) in
      let e = pairs op k nice u a b 3 n (count_on u b) (a + 3) (b + 3) f.2 g la lb sa.types sb.types in
      let m = meet_field_types op u a b in
      let w = m.words in
      let hs = m.handles in
      let g₁ = good_adds g e.adds in
      let up = later_adds g e.adds in
      let o : 1 ≤ D = omega (arith, deep g.sound pa (omega arith)) in
      let fl : D ≤ 32 = omega (arith, flat g.sound pa, flat g.sound pb) in
      let ia = part_inside g pa in
      let ib = part_inside g pb in
      let in-a : a + (2 + 3 * n) ≤ length u = omega (arith, ia.1, struct_size_is (word u a) ka) in
      let in_b : b + (2 + 3 * n) ≤ length u = omega (arith, ib.1, struct_size_is (word u b) kb, f.2) in
      let xs = first_flags_on w (length hs) a in
      let ys = first_flags_on w (length hs) b in
      let same : length hs ≡ length (either_final xs ys) = sym (either_length xs ys (every_length 3 (length hs) (a + 4) w ∙ sym (every_length 3 (length hs) (b + 4) w)) ∙ every_length 3 (length hs) (a + 4) w) in
      let room : a + 2 + 3 * length hs ≤ length w = omega (arith, e.long, up.long) in
      let room-b : b + 2 + 3 * length hs ≤ length w = omega (arith, e.long, up.long) in
      let y : Later w v = later_then (remake_later g₁ (length w) D 1 11 o fl a hs (either_final xs ys) same e.parts ia.0 room) x in
      let c : word v a ≡ word u a = z.words a ia.0 (omega arith) in
      let ax : every 3 n (a + 3) v ≡ every 3 n (a + 3) u = later_every z 3 n (a + 3) (omega arith) (omega arith) in
      let c₁ : word v b ≡ word u b = z.words b ib.0 (omega arith) in
      let bx : every 3 (count_on u b) (b + 3) v ≡ every 3 (count_on u b) (b + 3) u = later_every z 3 (count_on u b) (b + 3) (omega arith) (omega (arith, f.2)) in
      let ts : meet_field_types op v a b ≡ record { words = v; handles = hs } = rw (c, c₁, ax, bx) (pairs_settled u a b 3 n (count_on u b) (a + 3) (b + 3) f.2 g la lb sa.types sb.types v y) in
      let fa : first_flags_on v (length hs) a ≡ xs = later_every y 3 (length hs) (a + 4) (omega arith) (omega (arith, room)) in
      let fb : first_flags_on v (length hs) b ≡ ys = later_every y 3 (length hs) (b + 4) (omega arith) (omega (arith, room-b)) in
      rw (ts, fa, fb) (remake_again g₁ (length w) D 1 11 o fl a hs (either_final xs ys) same e.parts ia.0 room v x)

  structs_settled : Settles 8 9 (suc k) (meet_struct op)
  unfolding meet_struct
  structs_settled u a b d g pa pb v x =
      let z : Later u v = later_then (later_adds g (structs_nice op k nice u a b d g pa pb).adds) x in
      rw (struct_rule_same z a b (named_at g pa) (named_at g pb)) (struct_by u a b d g pa pb (struct_rule u a b) refl v z x)

  follow_settled : (u : List ℕ) (a b d : ℕ) → Good u → Part u (suc k) d 1 11 a → Part u (suc k) d 1 11 b → (r : Rule) → type_rule u a b ≡ r → (v : List ℕ) → Later u v → Later (follow op u a b r).words v → follow op v a b r ≡ there v (follow op u a b r).handle
  unfolding follow words_after
  follow_settled u a b d g pa pb First q v z x = refl
  follow_settled u a b d g pa pb Second q v z x = refl
  follow_settled u a b d g pa pb Bottom q v z x = refl
  follow_settled u a b d g pa pb Ints q v z x =
      let s = sure_ints u a b q in
      let wa = later_three z g pa 5 s.0 refl in
      let wb = later_three z g pb 5 s.1 refl in
      let lo = smaller (word u (a + 1)) (word u (b + 1)) in
      let hi = larger (word u (a + 2)) (word u (b + 2)) in
      rw (wa.0, wb.0, wa.1, wb.1) (make_again (int_entry lo hi) g.sound (sized_of 5 1 0 (lo ∷ hi ∷ []) (omega arith) (omega arith) refl) x)
  follow_settled u a b d g pa pb Floats q v z x =
      let s = sure_floats u a b q in
      let wa = later_three z g pa 6 s.0 refl in
      let wb = later_three z g pb 6 s.1 refl in
      rw (wa.0, wb.0, wa.1, wb.1)
  follow_settled u a b d g pa pb Tuples q v z x =
      let s = sure_tuples u a b q in
      let ta = of_tuple g.sound pa s.0 in
      let tb = of_tuple g.sound pb s.1 in
      let n = count_on u a in
      let la : a ≤ k = omega (arith, pa.earlier) in
      let lb : b ≤ k = omega (arith, pb.earlier) in
      let ia = part_inside g pa in
      let ib = part_inside g pb in
      let in-a : a + (1 + n) ≤ length u = omega (arith, ia.1, tuple_size (word u a) s.0) in
      let in_b : b + (1 + n) ≤ length u = omega (arith, ib.1, tuple_size (word u b) s.1, s.2) in
      let D = max (depth_on u a) (depth_on u b) in
      let m = meet_elements op u a b in
      let e = pairs op k nice u a b 1 n (count_on u b) (a + 1) (b + 1) s.2 g la lb ta.types tb.types in
      let g₁ = good_adds g e.adds in
      let o : 1 ≤ D = omega (arith, deep g.sound pa (omega arith)) in
      let fl : D ≤ 32 = omega (arith, flat g.sound pa, flat g.sound pb) in
      let hs = m.handles in
      let y : Later m.words v = later_then (around_later g₁ (length m.words) D 1 11 o fl Tuple (length hs) hs hs e.parts (omega arith) refl) x in
      let c : word v a ≡ word u a = z.words a ia.0 (omega arith) in
      let xs : every 1 n (a + 1) v ≡ every 1 n (a + 1) u = later_every z 1 n (a + 1) (omega arith) (omega arith) in
      let c₁ : word v b ≡ word u b = z.words b ib.0 (omega arith) in
      let ys : every 1 (count_on u b) (b + 1) v ≡ every 1 (count_on u b) (b + 1) u = later_every z 1 (count_on u b) (b + 1) (omega arith) (omega (arith, s.2)) in
      let ts : meet_elements op v a b ≡ record { words = v; handles = hs } = rw (c, c₁, xs, ys) (pairs_settled u a b 1 n (count_on u b) (a + 1) (b + 1) s.2 g la lb ta.types tb.types v y) in
      rw ts (around_again g₁ (length m.words) D 1 11 o fl Tuple (length hs) hs hs e.parts (omega arith) refl v x)
  follow_settled u a b d g pa pb Structs q v z x =
      let s = sure_structs u a b q in
      structs_settled u a b d g (narrow 8 9 pa s.0 s.1) (narrow 8 9 pb s.2 s.3) v x
  follow_settled u a b d g pa pb Pointers q v z x =
      let s = sure_pointers u a b q in
      let ta = of_pointer g.sound pa s.0 in
      let tb = of_pointer g.sound pb s.1 in
      let wa = later_three z g pa 10 s.0 refl in
      let wb = later_three z g pb 10 s.1 refl in
      let D = max (depth_on u a) (depth_on u b) in
      let px = part_weak (suc k) D (omega (arith, pa.earlier)) (omega arith) ta.to in
      let py = part_weak (suc k) D (omega (arith, pb.earlier)) (omega arith) tb.to in
      let nil = either_nil u a b in
      let t = meet_struct op u (word u (a + 1)) (word u (b + 1)) in
      let r = structs_nice op k nice u (word u (a + 1)) (word u (b + 1)) D g px py in
      let g₁ = good_adds g r.adds in
      let o : 1 ≤ D = omega (arith, deep g.sound pa (omega arith)) in
      let fl : D ≤ 32 = omega (arith, flat g.sound pa, flat g.sound pb) in
      let y = later_then (around_later g₁ (length t.words) D 8 9 o fl MemPtr 0 (t.handle ∷ []) (t.handle ∷ nil ∷ []) (r.part, tt) (omega arith) refl) x in
      let e : meet_struct op v (word u (a + 1)) (word u (b + 1)) ≡ there v t.handle = structs_settled u (word u (a + 1)) (word u (b + 1)) D g px py v y in
      rw (wa.0, wb.0, wa.1, wb.1, e) (around_again g₁ (length t.words) D 8 9 o fl MemPtr 0 (t.handle ∷ []) (t.handle ∷ nil ∷ []) (r.part, tt) (omega arith) refl v x)
  follow_settled u a b d g pa pb Memories q v z x =
      let s = sure_memories u a b q in
      let ta = of_memory g.sound pa s.0 in
      let tb = of_memory g.sound pb s.1 in
      let wa = later_three z g pa 11 s.0 refl in
      let wb = later_three z g pb 11 s.1 refl in
      let D = max (depth_on u a) (depth_on u b) in
      let px = part_weak k D (omega (arith, pa.earlier)) (omega arith) ta.to in
      let py = part_weak k D (omega (arith, pb.earlier)) (omega arith) tb.to in
      let alias = shared_alias (word u (a + 1)) (word u (b + 1)) in
      let t = op u (word u (a + 2)) (word u (b + 2)) in
      let r = nice u (word u (a + 2)) (word u (b + 2)) D g px py in
      let g₁ = good_adds g r.adds in
      let o : 1 ≤ D = omega (arith, deep g.sound pa (omega arith)) in
      let fl : D ≤ 32 = omega (arith, flat g.sound pa, flat g.sound pb) in
      let y = later_then (around_later g₁ (length t.words) D 1 11 o fl Mem 0 (t.handle ∷ []) (alias ∷ t.handle ∷ []) (r.part, tt) (omega arith) refl) x in
      let e : op v (word u (a + 2)) (word u (b + 2)) ≡ there v t.handle = settles u (word u (a + 2)) (word u (b + 2)) D g px py v y in
      rw (wa.0, wb.0, wa.1, wb.1, e) (around_again g₁ (length t.words) D 1 11 o fl Mem 0 (t.handle ∷ []) (alias ∷ t.handle ∷ []) (r.part, tt) (omega arith) refl v x)

-- at every n above both handles
pub meet_settled : (n : ℕ) → Settles 1 11 n (meet_within n)
unfolding meet_within
meet_settled zero u a b d g pa pb v x = absurd (omega (arith, pa.earlier))
meet_settled (suc n) u a b d g pa pb v x =
    let z : Later u v = later_then (later_adds g (meet_nice (suc n) u a b d g pa pb).adds) x in
    let ia = part_inside g pa in
    let ib = part_inside g pb in
    let ca : word v a ≡ word u a = z.words a ia.0 (omega (arith, ia.1, size_pos (word u a))) in
    let cb : word v b ≡ word u b = z.words b ib.0 (omega (arith, ib.1, size_pos (word u b))) in
    rw (ca, cb) (follow_settled (meet_within n) n (meet_nice n) (meet_settled n) u a b d g pa pb (type_rule u a b) refl v z x)
