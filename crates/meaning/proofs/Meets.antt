-- In a store without equal entries meet gives the least upper bound, of any two types of which one reaches no memory type. Assumes nothing.
use mathlib.Core.Path.{◌≡◌, refl, sym, ap, ◌∙◌}
use mathlib.Core.Logic.{◌⊎◌, inl, inr, ◌≢◌, ⊎_elim}
use mathlib.Core.Bool.{Bool, true, false, not, ◌&&◌, true≢false}
use mathlib.Core.List.{List, [], ◌∷◌, map}
use Prim.Native.Nat.{ℕ, zero, suc, ◌+◌, ◌*◌, ◌≤◌, max}
use native.Mathlib.Omega.{arith}
use borrow.Author.Tests.{eqb-true, eqb-false, leb-true, le-leb, not-true, not-false}
use lib.Dec.{eqb, leb}
use lib.ListN.{length}
use Rattle.words.specs.Kinds.{Bot, Top, Ctrl, XCtrl, Int, Float, Tuple, Fref, MemPtr, Mem}
use Rattle.words.specs.Made.{Grown, there}
use Rattle.wellformed.specs.Entry.{is_struct, is_flag}
use Rattle.words.specs.Columns.{every, word, kind_on, depth_on, count_on, first_flags_on, field_types_on, flags_on}
use Rattle.wellformed.proofs.Bools.{and_left, and_right}
use Rattle.call.proofs.Sound.{adds_none}
use Rattle.type_integer.specs.Signed.{smaller, larger}
use Rattle.makers.specs.Entries.{int_entry}
use Rattle.makers.proofs.FloatSize.{size_word}
use Rattle.kept.proofs.Fits.{int_fits}
use Rattle.structs.proofs.Columns.{half}
use Rattle.parts.specs.Parts.{Good, Part, NameAt, All}
use Rattle.parts.proofs.Parts.{StructAt, few, flat, deep, of_tuple, of_struct, of_fref, of_pointer, of_int, of_float, all_map}
use Rattle.parts.proofs.Good.{part_weak, part_adds, good_adds, make_answers}
use Rattle.float_meet.specs.FloatRule.{float_rule}
use Rattle.float_meet.specs.declared.FloatMeet.{FloatMeet}
use Rattle.float_meet.specs.declared.FloatMeet.TheVariants.{First, Second, Single, Double}
use Rattle.wellformed.specs.FreshHandles.{struct_top, struct_bot}
use Rattle.meet_rules.specs.Rules.{pair_rule, rule_for, type_rule, named_rule, struct_rule, reading_on, float_handle}
use Rattle.meet_rules.specs.declared.Rule.{Rule}
use Rattle.meet_rules.specs.declared.StructRule.{StructRule}
use Rattle.structs.specs.Remade.{remake}
use Rattle.meet_rules.specs.Names.{same_name, same_fields}
use Rattle.meet_fields.specs.Fields.{either_final, meet_fields}
use Rattle.meet_fields.proofs.Finals.{every_length, either_length, either_flags}
use Rattle.meet.specs.Meet.{Many, meet_int, meet_each, meet_elements, tuple_of, meet_field_types, meet_struct_of, pointer_of, either_nil, follow_struct, meet_struct, follow, meet_within}
use Rattle.meet.proofs.Nice.{EachAnswers, narrow, int_ends, each_nice, pairs, structs_nice, meet_nice}
use Rattle.trees.proofs.Tree.{any, same, Shape, tup, str, fre, mem, Ty, int, node, Tys, ε, ◌◂◌, ◌⊑◌, up, dn, fw, ⊑_refl}
use Rattle.trees.proofs.Meet.{Meet, Meet*, Flags, meet_le, meet_ge, meet_int_is, flags_none, flags_more, meet_node, meet_ε, meet_◂, len, meet_lengths, Named, struct, fref, meet_names, meet_fields_is, meet_kinds}
use Rattle.trees.proofs.Free.{Lacks*, lnode, lmore, is_mem, NoMem}
use Rattle.meaning.proofs.View.{row}
use Rattle.meaning.proofs.Values.{pick, pick_cond, key, smaller_key, larger_key, flag, flags, flag_either, flag_max, float_tree, float_answer, float_right}
use Rattle.meaning.proofs.Store.{Distinct, Typed, tree_on, typed, typed_struct, looks, handle_same, onward_adds, grown, kept, row_kept, every_kept, made_tree}
use Rattle.meaning.proofs.Structs.{shape_on, is_top, is_bot, struct_tree, struct_long, not_top, not_bot, remade_tree}
use Rattle.meaning.proofs.Names.{name_handle, other_name, fields_same, fields_pass}
use Rattle.meaning.proofs.Entries.{int_view, float_tree_is, tree_bot, tree_struct_top, tree_struct_bot, tree_float_b32, tree_float_bot}
use Rattle.meaning.proofs.Around.{tuple_tree, pointer_tree}
use Rattle.meaning.proofs.Families.{struct_or_fref, in_structs, kind_family, Others, apart, no_one}

-- ---- what meet is to give

abbrev pub Right : List ℕ → ℕ → ℕ → Grown → Type 0
Right u a b g = Meet (tree_on u a) (tree_on u b) (tree_on g.words g.handle)

-- one of two types, or of two lists of types, without memory
abbrev pub Side : Ty → Ty → Type 0
Side t s = NoMem t ⊎ NoMem s

abbrev Side* : Tys → Tys → Type 0
Side* ts us = Lacks* is_mem ts ⊎ Lacks* is_mem us

parts_lack : {s : Shape} {fs : List Bool} {ts : Tys} → NoMem (node s fs ts) → Lacks* is_mem ts
parts_lack (lnode e l) = l

shape_lacks : {s : Shape} {fs : List Bool} {ts : Tys} → NoMem (node s fs ts) → is_mem s ≡ false
shape_lacks (lnode e l) = e

head_lacks : {t : Ty} {ts : Tys} → Lacks* is_mem (t ◂ ts) → NoMem t
head_lacks (lmore l ls) = l

tail_lacks : {t : Ty} {ts : Tys} → Lacks* is_mem (t ◂ ts) → Lacks* is_mem ts
tail_lacks (lmore l ls) = ls

pub side_parts : {s s' : Shape} {fs gs : List Bool} {ts us : Tys} → Side (node s fs ts) (node s' gs us) → Side* ts us
side_parts = ⊎_elim (λ l. inl (parts_lack l)) (λ l. inr (parts_lack l))

side_head : {t v : Ty} {ts us : Tys} → Side* (t ◂ ts) (v ◂ us) → Side t v
side_head = ⊎_elim (λ l. inl (head_lacks l)) (λ l. inr (head_lacks l))

side_tail : {t v : Ty} {ts us : Tys} → Side* (t ◂ ts) (v ◂ us) → Side* ts us
side_tail = ⊎_elim (λ l. inl (tail_lacks l)) (λ l. inr (tail_lacks l))

no_side : {a b : ℕ} {fs gs : List Bool} {ts us : Tys} {P : Type 0} → Side (node (mem a) fs ts) (node (mem b) gs us) → P
no_side = ⊎_elim (λ l. absurd (true≢false (shape_lacks l))) (λ l. absurd (true≢false (shape_lacks l)))

-- ---- flags

flags_met : (xs ys : List ℕ) → length xs ≡ length ys → Flags (flags xs) (flags ys) (flags (either_final xs ys))
unfolding either_final
flags_met [] [] e = flags_none
flags_met [] (y ∷ ys) e = absurd (omega arith)
flags_met (x ∷ xs) [] e = absurd (omega arith)
flags_met (x ∷ xs) (y ∷ ys) e = rw (flag_either x y) (flags_more (flag x) (flag y) (flags_met xs ys (omega arith)))

-- ---- parts

module _ (n : ℕ) (ih : (u : List ℕ) (a b : ℕ) → Distinct u → Part u n 33 1 11 a → Part u n 33 1 11 b → Side (tree_on u a) (tree_on u b) → Right u a b (meet_within n u a b)) where
  each_right : (u xs ys : List ℕ) → Distinct u → All (Part u n 33 1 11) xs → All (Part u n 33 1 11) ys → length xs ≡ length ys → Side* (row (tree_on u) xs) (row (tree_on u) ys)
      → Meet* (row (tree_on u) xs) (row (tree_on u) ys) (row (tree_on (meet_each (meet_within n) u xs ys).words) (meet_each (meet_within n) u xs ys).handles)
  unfolding meet_each
  each_right u [] [] S a b l s = meet_ε
  each_right u [] (y ∷ ys) S a b l s = absurd (omega arith)
  each_right u (x ∷ xs) [] S a b l s = absurd (omega arith)
  each_right u (x ∷ xs) (y ∷ ys) S a b l s =
      let G = S.good in
      let r = meet_nice n u x y 33 G a.0 b.0 in
      let g = meet_within n u x y in
      let T = grown S r.adds in
      let H = T.good in
      let on = onward_adds r.adds in
      let a' = all_map (λ z p. part_adds G r.adds p) xs a.1 in
      let b' = all_map (λ z p. part_adds G r.adds p) ys b.1 in
      let kx = row_kept G H on xs (all_map (λ z p. typed G p) xs a.1) in
      let ky = row_kept G H on ys (all_map (λ z p. typed G p) ys b.1) in
      let rest = each_right g.words xs ys T a' b' (omega arith) (rw (kx, ky) (side_tail s)) in
      let e = each_nice (meet_within n) n (meet_nice n) g.words 33 xs ys H a' b' (omega arith) in
      let k = kept H (good_adds H e.adds) (onward_adds e.adds) g.handle r.part in
      rw (k, ← kx, ← ky) (meet_◂ (ih u x y S a.0 b.0 (side_head s)) rest)

  -- the parts of two entries, s words apart, as many of the one as of the other
  module _ (u : List ℕ) (a b s c d p q : ℕ) (same : c ≡ d) (S : Distinct u) (la : a ≤ n) (lb : b ≤ n) (fa : depth_on u a ≤ 32) (fb : depth_on u b ≤ 32)
      (pa : All (Part u a (depth_on u a) 1 11) (every s c p u)) (pb : All (Part u b (depth_on u b) 1 11) (every s d q u)) where
    abbrev m : Many
    m = meet_each (meet_within n) u (every s c p u) (every s d q u)

    pub part_answers : EachAnswers u (max (depth_on u a) (depth_on u b)) c m
    part_answers = pairs (meet_within n) n (meet_nice n) u a b s c d p q same S.good la lb pa pb

    pub parts_met : Side* (row (tree_on u) (every s c p u)) (row (tree_on u) (every s d q u)) → Meet* (row (tree_on u) (every s c p u)) (row (tree_on u) (every s d q u)) (row (tree_on m.words) m.handles)
    parts_met =
        each_right u (every s c p u) (every s d q u) S
        (all_map (λ z x. part_weak n 33 la (omega arith) x) (every s c p u) pa)
        (all_map (λ z x. part_weak n 33 lb (omega arith) x) (every s d q u) pb)
        (every_length s c p u ∙ same ∙ sym (every_length s d q u))

  -- ---- tuples

  module _ (u : List ℕ) (a b : ℕ) (S : Distinct u) (pa : Part u (suc n) 33 1 11 a) (pb : Part u (suc n) 33 1 11 b) (ka : kind_on u a ≡ 7) (kb : kind_on u b ≡ 7) where
    abbrev G : Good u
    G = S.good

    abbrev c : ℕ
    c = count_on u a

    tuple_a : tree_on u a ≡ node tup [] (row (tree_on u) (every 1 c (a + 1) u))
    tuple_a = looks G a 7 (typed G pa) ka

    tuple_b : tree_on u b ≡ node tup [] (row (tree_on u) (every 1 (count_on u b) (b + 1) u))
    tuple_b = looks G b 7 (typed G pb) kb

    tuples_right : c ≡ count_on u b → Side (tree_on u a) (tree_on u b) → Right u a b (tuple_of (meet_elements (meet_within n) u a b))
    tuples_right e side =
        let ta = (of_tuple G.sound pa ka).types in
        let tb = (of_tuple G.sound pb kb).types in
        let fa = flat G.sound pa in
        let fb = flat G.sound pb in
        let D = max (depth_on u a) (depth_on u b) in
        let o : 1 ≤ D = omega (arith, deep G.sound pa (omega arith)) in
        let x = part_answers u a b 1 c (count_on u b) (a + 1) (b + 1) e S (omega (arith, pa.earlier)) (omega (arith, pb.earlier)) fa fb ta tb in
        let m = meet_elements (meet_within n) u a b in
        let w = m.words in
        let hs = m.handles in
        let l : length hs ≤ 255 = omega (arith, few G.sound pa, x.long) in
        let t = tuple_tree (grown S x.adds) D o (omega arith) hs x.parts l in
        let sides = side_parts (rw (tuple_a, tuple_b) at side) in
        rw (tuple_a, tuple_b, t) (meet_node (λ i z. let y : ◌≡◌ {A = ℕ} 0 1 = cc in omega arith) flags_none (parts_met u a b 1 c (count_on u b) (a + 1) (b + 1) e S (omega (arith, pa.earlier)) (omega (arith, pb.earlier)) fa fb ta tb sides))

    len_row : (f : ℕ → Ty) (ks : List ℕ) → len (row f ks) ≡ length ks
    len_row f [] = refl
    len_row f (k ∷ ks) = ap suc (len_row f ks)

    lengths_right : c ≢ count_on u b → Right u a b (there u 5)
    lengths_right ne =
        rw (tuple_a, tuple_b, tree_bot G)
        (meet_lengths (λ z. ne (sym (every_length 1 c (a + 1) u) ∙ sym (len_row (tree_on u) (every 1 c (a + 1) u)) ∙ z ∙ len_row (tree_on u) (every 1 (count_on u b) (b + 1) u) ∙ every_length 1 (count_on u b) (b + 1) u)))

  -- ---- structs and forward references

  module _ (u : List ℕ) (a b : ℕ) (S : Distinct u) (pa : Part u (suc n) 33 8 9 a) (pb : Part u (suc n) 33 8 9 b) where
    abbrev G₈ : Good u
    G₈ = S.good

    abbrev ta : Typed u a
    ta = typed_struct G₈ pa

    abbrev tb : Typed u b
    tb = typed_struct G₈ pb

    -- two structs of one shape
    module _ (ka : kind_on u a ≡ 8) (kb : kind_on u b ≡ 8) (named : same_name u (word u (a + 1)) (word u (b + 1)) ≡ true) (counted : count_on u a ≡ count_on u b)
        (fielded : same_fields u (count_on u a) (a + 2) (b + 2) ≡ true) where
      sa : StructAt u a
      sa = of_struct G₈.sound ta ka

      sb : StructAt u b
      sb = of_struct G₈.sound tb kb

      shapes : shape_on u b ≡ shape_on u a
      shapes =
          let x : a + 2 + 2 ≡ a + 4 = omega arith in
          let y : b + 2 + 2 ≡ b + 4 = omega arith in
          let e = name_handle S a b (word u (a + 1)) (word u (b + 1)) sa.name sb.name named in
          let f = fields_same S a b (count_on u a) (a + 2) (b + 2) sa.names (rw counted sb.names) fielded in
          rw (← counted, ← e, ← f.0, rw (x, y) at f.1)

      fields_right : Side (tree_on u a) (tree_on u b) → (tree_on u a ≡ node (shape_on u a) (flags (flags_on u a)) (row (tree_on u) (field_types_on u a))) → (tree_on u b ≡ node (shape_on u b) (flags (flags_on u b)) (row (tree_on u) (field_types_on u b)))
          → is_top u a ≡ false → is_bot u a ≡ false → Right u a b (meet_struct_of a b (meet_field_types (meet_within n) u a b))
      unfolding meet_fields
      fields_right side la lb nt nb =
          let c = count_on u a in
          let xs = every 3 c (a + 4) u in
          let ys = every 3 c (b + 4) u in
          let fa = flat G₈.sound ta in
          let fb = flat G₈.sound tb in
          let D = max (depth_on u a) (depth_on u b) in
          let o : 1 ≤ D = omega (arith, deep G₈.sound ta (omega arith)) in
          let x = part_answers u a b 3 c (count_on u b) (a + 3) (b + 3) counted S (omega (arith, pa.earlier)) (omega (arith, pb.earlier)) fa fb sa.types sb.types in
          let m = meet_field_types (meet_within n) u a b in
          let w = m.words in
          let hs = m.handles in
          let H = (grown S x.adds).good in
          let on = onward_adds x.adds in
          let l = x.long in
          let ex : first_flags_on w (length hs) a ≡ xs = rw l (every_kept G₈ H on ta 3 c 4 (a + 4) refl (omega (arith, struct_long S ta ka))) in
          let ey : first_flags_on w (length hs) b ≡ ys = rw l (every_kept G₈ H on tb 3 c 4 (b + 4) refl (omega (arith, struct_long S tb kb, counted))) in
          let fs = either_final xs ys in
          let n₁ : length xs ≡ length ys = every_length 3 c (a + 4) u ∙ sym (every_length 3 c (b + 4) u) in
          let same : length hs ≡ length fs = l ∙ sym (either_length xs ys n₁ ∙ every_length 3 c (a + 4) u) in
          let t = remade_tree S ta ka w x.adds hs fs D o (omega arith) x.parts l same (either_flags xs ys) in
          let t₁ : tree_on (remake a hs fs w).words (remake a hs fs w).handle ≡ node (shape_on u a) (flags fs) (row (tree_on w) hs) = t ∙ rw (nt, nb) in
          let lb₁ : tree_on u b ≡ node (shape_on u a) (flags ys) (row (tree_on u) (field_types_on u b)) = lb ∙ rw (shapes, counted) in
          let sides = side_parts (rw (la, lb₁) at side) in
          rw (ex, ey, la, lb₁, t₁) (meet_node (λ i z. let y : ◌≡◌ {A = ℕ} 0 1 = cc in omega arith) (flags_met xs ys n₁) (parts_met u a b 3 c (count_on u b) (a + 3) (b + 3) counted S (omega (arith, pa.earlier)) (omega (arith, pb.earlier)) fa fb sa.types sb.types sides))

    -- a struct that is neither $TOP nor $BOT, or a forward reference
    module _ (h : ℕ) (ph : Typed u h) (low : 8 ≤ kind_on u h) (high : kind_on u h ≤ 9) (ne : h ≢ 18) (nb : h ≢ 20) where
      record Node : Type 0 where
        shape : Shape
        finals : List Bool
        parts : Tys
        is : tree_on u h ≡ node shape finals parts
        named : Named (word u (h + 1)) shape

      plain_tree : (k : kind_on u h ≡ 8) → tree_on u h ≡ node (shape_on u h) (flags (flags_on u h)) (row (tree_on u) (field_types_on u h))
      plain_tree k = struct_tree G₈ ph k ∙ rw (not_top S ph k ne, not_bot S ph k nb)

      either : (kind_on u h ≡ 8) ⊎ (kind_on u h ≡ 9)
      either = struct_or_fref (kind_on u h) low high

      node_of : Node
      node_of =
          ⊎_elim
          (λ (k : kind_on u h ≡ 8). record { shape = shape_on u h; finals = flags (flags_on u h); parts = row (tree_on u) (field_types_on u h); is = plain_tree k; named = struct })
          (λ (k : kind_on u h ≡ 9). record { shape = fre (word u (h + 1)); finals = []; parts = ε; is = looks G₈ h 9 ph k; named = fref })
          either

      -- a forward reference below its namesake
      fref_below : (x : ℕ) → x ≡ word u (h + 1) → node (fre x) [] ε ⊑ tree_on u h
      fref_below x q = ⊎_elim (λ (k : kind_on u h ≡ 8). rw (q, plain_tree k) fw) (λ (k : kind_on u h ≡ 9). rw (q, looks G₈ h 9 ph k) (⊑_refl (node (fre (word u (h + 1))) [] ε))) either

      name_of : NameAt u h (word u (h + 1))
      name_of = ⊎_elim (λ (k : kind_on u h ≡ 8). (of_struct G₈.sound ph k).name) (λ (k : kind_on u h ≡ 9). of_fref G₈.sound ph k) either

    -- structs whose field counts, or whose fields' names or aliases, differ
    counts_differ : (eqb (count_on u a) (count_on u b) ≡ false) → shape_on u a ≢ shape_on u b
    counts_differ e z =
        let x : every 3 (count_on u a) (a + 2) u ≡ every 3 (count_on u b) (b + 2) u = cc in
        eqb-false (count_on u a) (count_on u b) e (sym (every_length 3 (count_on u a) (a + 2) u) ∙ ap length x ∙ every_length 3 (count_on u b) (b + 2) u)

    fields_differ : count_on u a ≡ count_on u b → same_fields u (count_on u a) (a + 2) (b + 2) ≡ false → shape_on u a ≢ shape_on u b
    fields_differ q e z =
        let c = count_on u a in
        let i : a + 2 + 2 ≡ a + 4 = omega arith in
        let j : b + 2 + 2 ≡ b + 4 = omega arith in
        let z' : shape_on u a ≡ str (word u (b + 1)) (every 3 c (b + 2) u) (map half (every 3 c (b + 4) u)) = z ∙ rw q in
        let x : every 3 c (a + 2) u ≡ every 3 c (b + 2) u = cc in
        let y : map half (every 3 c (a + 4) u) ≡ map half (every 3 c (b + 4) u) = cc in
        true≢false (sym (fields_pass u c (a + 2) (b + 2) x (rw (i, j) y)) ∙ e)

    structs_right : Side (tree_on u a) (tree_on u b) → Right u a b (meet_struct (meet_within n) u a b)
    unfolding meet_struct follow_struct struct_rule named_rule
    structs_right side =
        let Q : StructRule → Type 0 = λ r. Right u a b (follow_struct (meet_within n) u a b r) in
        let in-a = in_structs G₈ a ta pa.least pa.most in
        let in_b = in_structs G₈ b tb pb.least pb.most in
        let ja = kind_on u a in
        let jb = kind_on u b in
        pick Q (eqb a b) (λ e. rw (← eqb-true a b e) (meet_le (⊑_refl (tree_on u a)))) λ n₀.
        pick Q (eqb a struct_bot) (λ e. rw (eqb-true a 20 e, tree_struct_bot G₈) (meet_ge (dn in_b))) λ a₂₀.
        pick Q (eqb b struct_bot) (λ e. rw (eqb-true b 20 e, tree_struct_bot G₈) (meet_le (dn in-a))) λ b₂₀.
        pick Q (eqb a struct_top) (λ e. rw (eqb-true a 18 e, tree_struct_top G₈) (meet_le (up in_b))) λ a₁₈.
        pick Q (eqb b struct_top) (λ e. rw (eqb-true b 18 e, tree_struct_top G₈) (meet_ge (up in-a))) λ b₁₈.
        let na = node_of a ta pa.least pa.most (eqb-false a 18 a₁₈) (eqb-false a 20 a₂₀) in
        let nb = node_of b tb pb.least pb.most (eqb-false b 18 b₁₈) (eqb-false b 20 b₂₀) in
        let same = same_name u (word u (a + 1)) (word u (b + 1)) in
        pick Q (not same) (λ e. rw (na.is, nb.is, tree_struct_bot G₈) (meet_names na.named nb.named (other_name u (word u (a + 1)) (word u (b + 1)) (not-true same e)))) λ e₁.
        let named = not-false same e₁ in
        let one_name : word u (a + 1) ≡ word u (b + 1) =
        name_handle S a b (word u (a + 1)) (word u (b + 1)) (name_of a ta pa.least pa.most (eqb-false a 18 a₁₈) (eqb-false a 20 a₂₀)) (name_of b tb pb.least pb.most (eqb-false b 18 b₁₈) (eqb-false b 20 b₂₀)) named in
        pick Q (eqb ja Fref) (λ e. rw (looks G₈ a 9 ta (eqb-true ja 9 e)) (meet_le (fref_below b tb pb.least pb.most (eqb-false b 18 b₁₈) (eqb-false b 20 b₂₀) (word u (a + 1)) one_name))) λ fa.
        pick Q (eqb jb Fref) (λ e. rw (looks G₈ b 9 tb (eqb-true jb 9 e)) (meet_ge (fref_below a ta pa.least pa.most (eqb-false a 18 a₁₈) (eqb-false a 20 a₂₀) (word u (b + 1)) (sym one_name)))) λ fb.
        let ka : ja ≡ 8 = eight ja pa.least pa.most (eqb-false ja 9 fa) in
        let kb : jb ≡ 8 = eight jb pb.least pb.most (eqb-false jb 9 fb) in
        let la = plain_tree a ta pa.least pa.most (eqb-false a 18 a₁₈) (eqb-false a 20 a₂₀) ka in
        let lb = plain_tree b tb pb.least pb.most (eqb-false b 18 b₁₈) (eqb-false b 20 b₂₀) kb in
        pick Q (not (eqb (count_on u a) (count_on u b))) (λ e. rw (la, lb, tree_struct_bot G₈) (meet_fields_is (counts_differ (not-true (eqb (count_on u a) (count_on u b)) e)))) λ e₂.
        let counted = eqb-true (count_on u a) (count_on u b) (not-false (eqb (count_on u a) (count_on u b)) e₂) in
        pick Q (not (same_fields u (count_on u a) (a + 2) (b + 2))) (λ e. rw (la, lb, tree_struct_bot G₈) (meet_fields_is (fields_differ counted (not-true (same_fields u (count_on u a) (a + 2) (b + 2)) e)))) λ e₃.
        fields_right ka kb named counted (not-false (same_fields u (count_on u a) (a + 2) (b + 2)) e₃) side la lb (not_top S ta ka (eqb-false a 18 a₁₈)) (not_bot S ta ka (eqb-false a 20 a₂₀))
      where
        eight : (x : ℕ) → 8 ≤ x → x ≤ 9 → (x ≡ 9 → ⊥) → x ≡ 8
        eight x l h e = omega arith

  -- ---- types

  module _ (u : List ℕ) (a b : ℕ) (S : Distinct u) (pa : Part u (suc n) 33 1 11 a) (pb : Part u (suc n) 33 1 11 b) (ne : a ≢ b) (side : Side (tree_on u a) (tree_on u b)) where
    abbrev G₁ : Good u
    G₁ = S.good

    abbrev va : Typed u a
    va = typed G₁ pa

    abbrev vb : Typed u b
    vb = typed G₁ pb

    -- two types of one tree are one
    no_twin : tree_on u a ≡ tree_on u b → ⊥
    no_twin e = ne (handle_same S a b va vb e)

    ints_right : kind_on u a ≡ 5 → kind_on u b ≡ 5 → Right u a b (meet_int u a b)
    ints_right ka kb =
        let x = smaller (word u (a + 1)) (word u (b + 1)) in
        let y = larger (word u (a + 2)) (word u (b + 2)) in
        let ea = of_int G₁.sound va ka S.ends in
        let eb = of_int G₁.sound vb kb S.ends in
        let f = int_fits u x y (int_ends u (length u) a b 33 G₁ va vb (ka, kb)) in
        let r = make_answers 33 1 11 (adds_none u 0 G₁.sound) G₁ (int_entry x y) f (inl refl) (omega arith) (omega arith) (omega arith) in
        let t : tree_on (meet_int u a b).words (meet_int u a b).handle ≡ int (key x) (key y) = made_tree u (int_entry x y) S f.sized (omega arith) (omega arith) r ∙ rw (int_view x y) in
        rw (t, looks G₁ a 5 va ka, looks G₁ b 5 vb kb, smaller_key (word u (a + 1)) (word u (b + 1)) ea.0 eb.0, larger_key (word u (a + 2)) (word u (b + 2)) ea.1 eb.1) (meet_int_is _ _ _ _)

    answer_tree : (m : FloatMeet) → tree_on u (float_handle a b m) ≡ float_answer (tree_on u a) (tree_on u b) m
    answer_tree First = refl
    answer_tree Second = refl
    answer_tree Single = tree_float_b32 G₁
    answer_tree Double = tree_float_bot G₁

    floats_right : kind_on u a ≡ 6 → kind_on u b ≡ 6 → Right u a b (there u (float_handle a b (float_rule (reading_on u a) (reading_on u b))))
    floats_right ka kb =
        let s = word u (a + 1) in
        let x = word u (a + 2) in
        let t = word u (b + 1) in
        let y = word u (b + 2) in
        let la = float_tree_is G₁ a va ka in
        let lb = float_tree_is G₁ b vb kb in
        let es = size_word s x (of_float G₁.sound va ka) in
        let et = size_word t y (of_float G₁.sound vb kb) in
        rw (answer_tree (float_rule (reading_on u a) (reading_on u b)), la, lb) (float_right x y s t es et (λ i j z. no_twin (let e : float_tree s x ≡ float_tree t y = rw (i, j, z) in la ∙ e ∙ sym lb)))

    pointers_right : kind_on u a ≡ 10 → kind_on u b ≡ 10 → Right u a b (pointer_of (either_nil u a b) (meet_struct (meet_within n) u (word u (a + 1)) (word u (b + 1))))
    pointers_right ka kb =
        let ta = of_pointer G₁.sound va ka in
        let tb = of_pointer G₁.sound vb kb in
        let fa = flat G₁.sound va in
        let fb = flat G₁.sound vb in
        let D = max (depth_on u a) (depth_on u b) in
        let o : 1 ≤ D = omega (arith, deep G₁.sound va (omega arith)) in
        let x = word u (a + 1) in
        let y = word u (b + 1) in
        let px = part_weak (suc n) D (omega (arith, pa.earlier)) (omega arith) ta.to in
        let py = part_weak (suc n) D (omega (arith, pb.earlier)) (omega arith) tb.to in
        let q = meet_struct (meet_within n) u x y in
        let r = structs_nice (meet_within n) n (meet_nice n) u x y D G₁ px py in
        let w = q.words in
        let na = leb-true (word u (a + 2)) 1 ta.flag in
        let nb = leb-true (word u (b + 2)) 1 tb.flag in
        let nil = either_nil u a b in
        let fl : is_flag nil ≡ true = le-leb nil 1 (omega arith) in
        let t = pointer_tree (grown S r.adds) D o (omega arith) q.handle nil r.part fl in
        let la = looks G₁ a 10 va ka in
        let lb = looks G₁ b 10 vb kb in
        let sides = side_head (side_parts (rw (la, lb) at side)) in
        let h = structs_right u x y S (part_weak (suc n) 33 (omega arith) (omega arith) px) (part_weak (suc n) 33 (omega arith) (omega arith) py) sides in
        rw (la, lb, t, flag_max (word u (a + 2)) (word u (b + 2)) na nb) (meet_node (λ i z. let y : ◌≡◌ {A = ℕ} 0 1 = cc in omega arith) (flags_more (flag (word u (a + 2))) (flag (word u (b + 2))) flags_none) (meet_◂ h meet_ε))

    others_right : Others (kind_on u a) (kind_on u b) → eqb (kind_on u b) 1 ≡ false → eqb (kind_on u b) 2 ≡ false → Right u a b (there u 5)
    others_right o k₁ k₂ =
        let fa = kind_family G₁ a va in
        let fb = kind_family G₁ b vb in
        rw (tree_bot G₁) (meet_kinds
        (λ z. no_one (kind_on u a) o.bot o.top (sym fa ∙ z))
        (λ z. no_one (kind_on u b) k₁ k₂ (sym fb ∙ z))
        (λ z. apart (kind_on u b) (kind_on u a) va.least va.most o (sym fa ∙ z ∙ fb)))

    -- both of the tests hold
    both : (x y : ℕ) → (eqb (kind_on u a) x && eqb (kind_on u b) y) ≡ true → (kind_on u a ≡ x) × (kind_on u b ≡ y)
    both x y e = (eqb-true (kind_on u a) x (and_left (eqb (kind_on u a) x) (eqb (kind_on u b) y) e), eqb-true (kind_on u b) y (and_right (eqb (kind_on u a) x) (eqb (kind_on u b) y) e))

    in_range : (k : ℕ) → is_struct k ≡ true → (8 ≤ k) × (k ≤ 9)
    in_range k e = (leb-true 8 k (and_left (leb 8 k) (leb k 9) e), leb-true k 9 (and_right (leb 8 k) (leb k 9) e))

    rule_right : Right u a b (follow (meet_within n) u a b (type_rule u a b))
    unfolding follow rule_for pair_rule
    rule_right =
        let Q : Rule → Type 0 = λ r. Right u a b (follow (meet_within n) u a b r) in
        let j = kind_on u a in
        let k = kind_on u b in
        pick Q (eqb a b) (λ e. absurd (ne (eqb-true a b e))) λ n₀.
        pick Q (eqb j Bot) (λ e. rw (looks G₁ a 1 va (eqb-true j 1 e)) (meet_ge (dn any))) λ j₁.
        pick Q (eqb k Bot) (λ e. rw (looks G₁ b 1 vb (eqb-true k 1 e)) (meet_le (dn any))) λ k₁.
        pick Q (eqb k Top) (λ e. rw (looks G₁ b 2 vb (eqb-true k 2 e)) (meet_ge (up any))) λ k₂.
        pick Q (eqb j Top) (λ e. rw (looks G₁ a 2 va (eqb-true j 2 e)) (meet_le (up any))) λ j₂.
        pick Q (eqb j Ctrl && eqb k XCtrl) (λ e. let q = both 3 4 e in rw (looks G₁ a 3 va q.0, looks G₁ b 4 vb q.1) (meet_ge (up same))) λ c₁.
        pick Q (eqb j XCtrl && eqb k Ctrl) (λ e. let q = both 4 3 e in rw (looks G₁ a 4 va q.0, looks G₁ b 3 vb q.1) (meet_le (up same))) λ c₂.
        pick Q (eqb j Int && eqb k Int) (λ e. let q = both 5 5 e in ints_right q.0 q.1) λ n₅.
        pick Q (eqb j Float && eqb k Float) (λ e. let q = both 6 6 e in floats_right q.0 q.1) λ n₆.
        pick Q (eqb j Tuple && eqb k Tuple) (λ e.
        let q = both 7 7 e in
        let c = eqb (count_on u a) (count_on u b) in
        pick_cond Q c (λ s. tuples_right u a b S pa pb q.0 q.1 (eqb-true (count_on u a) (count_on u b) s) side) λ s.
        lengths_right u a b S pa pb q.0 q.1 (eqb-false (count_on u a) (count_on u b) s)) λ n₇.
        pick Q (is_struct j && is_struct k) (λ e.
        let ra = in_range j (and_left (is_struct j) (is_struct k) e) in
        let rb = in_range k (and_right (is_struct j) (is_struct k) e) in
        structs_right u a b S (narrow 8 9 pa ra.0 ra.1) (narrow 8 9 pb rb.0 rb.1) side) λ n₈.
        pick Q (eqb j MemPtr && eqb k MemPtr) (λ e. let q = both 10 10 e in pointers_right q.0 q.1) λ n₁₀.
        pick Q (eqb j Mem && eqb k Mem) (λ e. let q = both 11 11 e in no_side (rw (looks G₁ a 11 va q.0, looks G₁ b 11 vb q.1) at side)) λ n₁₁.
        others_right record {
          bot = j₁;
          top = j₂;
          ctrls = λ x y. no_twin (looks G₁ a 3 va x ∙ sym (looks G₁ b 3 vb y));
          xctrls = λ x y. no_twin (looks G₁ a 4 va x ∙ sym (looks G₁ b 4 vb y));
          down = c₁;
          up = c₂;
          ints = n₅;
          floats = n₆;
          tuples = n₇;
          structs = n₈;
          pointers = n₁₀;
          memories = n₁₁;
        } k₁ k₂

-- one type with itself
same_right : (n : ℕ) (u : List ℕ) (a b : ℕ) → eqb a b ≡ true → Right u a b (follow (meet_within n) u a b (type_rule u a b))
unfolding follow rule_for
same_right n u a b e = rw e (rw (← eqb-true a b e) (meet_le (⊑_refl (tree_on u a))))

pub meet_right : (n : ℕ) (u : List ℕ) (a b : ℕ) → Distinct u → Part u n 33 1 11 a → Part u n 33 1 11 b → Side (tree_on u a) (tree_on u b) → Right u a b (meet_within n u a b)
unfolding meet_within
meet_right zero u a b S pa pb side = absurd (omega (arith, pa.earlier))
meet_right (suc n) u a b S pa pb side = go (eqb a b) refl (λ ne. rule_right n (meet_right n) u a b S pa pb ne side)
  where
    go : (t : Bool) → eqb a b ≡ t → ((a ≢ b) → Right u a b (follow (meet_within n) u a b (type_rule u a b))) → Right u a b (follow (meet_within n) u a b (type_rule u a b))
    go true e k = same_right n u a b e
    go false e k = k (eqb-false a b e)
