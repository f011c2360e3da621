-- A type is below its read-only form. Assumes nothing.
use mathlib.Core.Path.{◌≡◌, sym, ◌∙◌}
use mathlib.Core.Bool.{Bool, true, false, not, ◌&&◌}
use mathlib.Core.List.{List, [], ◌∷◌}
use Prim.Native.Nat.{ℕ, zero, suc, ◌+◌, ◌%◌, ◌≤◌}
use native.Mathlib.Omega.{arith}
use lib.Dec.{eqb}
use lib.ListN.{length, replicate, length-replicate}
use borrow.Author.Tests.{eqb-true}
use Rattle.words.specs.Made.{Grown}
use Rattle.words.specs.Columns.{every, word, kind_on, depth_on, count_on, field_types_on, flags_on}
use Rattle.parts.specs.Parts.{Good, Part, All}
use Rattle.parts.proofs.Parts.{flat, deep, of_struct, of_pointer, all_map}
use Rattle.parts.proofs.Good.{part_weak, part_adds, good_adds}
use Rattle.rules.specs.Column.{◌⇒◌∣◌}
use Rattle.meet_fields.proofs.Finals.{every_length}
use Rattle.meet.proofs.Nice.{narrow}
use Rattle.finals.specs.Final.{is_final_of}
use Rattle.make_ro.specs.ReadOnly.{field_type, read_only_each, read_only_field_types, read_only_struct_of, pointer_to, make_ro_within}
use Rattle.make_ro.proofs.Finals.{ones_flags}
use Rattle.make_ro.proofs.Nice.{field_nice, each_nice, struct_kind, make_ro_nice}
use Rattle.trees.proofs.Tree.{stc, same, ◌≤ᵇ◌, ◌≤*◌, stop, ◌⨟◌, ◌⊑◌, up, dn, nd, ◌⊑*◌, end, ◌&◌, ≤ᵇ_true, ≤*-refl, ⊑_refl}
use Rattle.meaning.proofs.View.{vhi, vlo, vnode, row, build}
use Rattle.meaning.proofs.Values.{pick, pick_cond, flag, flags}
use Rattle.meaning.proofs.Store.{Distinct, Typed, tree_on, typed, looks, onward_adds, grown, kept, row_kept}
use Rattle.meaning.proofs.Around.{pointer_tree}
use Rattle.meaning.proofs.Structs.{shape_on, is_top, is_bot, struct_tree, remade_tree}

abbrev Above : List ℕ → ℕ → Grown → Type 0
Above u a g = tree_on u a ⊑ tree_on g.words g.handle

-- every flag is at most yes
to_ones : (vs : List ℕ) → flags vs ≤* flags (replicate (length vs) 1)
to_ones [] = stop
to_ones (v ∷ vs) = ≤ᵇ_true (flag v) ⨟ to_ones vs

module _ (n : ℕ) (ih : (u : List ℕ) (a : ℕ) → Distinct u → Part u n 33 1 11 a → Above u a (make_ro_within n u a)) where
  field_above : (u : List ℕ) (v t : ℕ) → Distinct u → Part u n 33 1 11 t → Above u t (field_type (make_ro_within n) u v t)
  field_above u v t S p = pick_cond (Above u t) (eqb (v % 2) 1) (λ e. ⊑_refl (tree_on u t)) (λ e. ih u t S p)

  each_above : (u vs ts : List ℕ) → Distinct u → All (Part u n 33 1 11) ts → length vs ≡ length ts → row (tree_on u) ts ⊑* row (tree_on (read_only_each (make_ro_within n) u vs ts).words) (read_only_each (make_ro_within n) u vs ts).handles
  unfolding read_only_each
  each_above u [] [] S a l = end
  each_above u [] (t ∷ ts) S a l = absurd (omega arith)
  each_above u (v ∷ vs) [] S a l = absurd (omega arith)
  each_above u (v ∷ vs) (t ∷ ts) S a l =
      let G = S.good in
      let r = field_nice (make_ro_within n) n (make_ro_nice n) u v t 33 G a.0 in
      let g = field_type (make_ro_within n) u v t in
      let T = grown S r.adds in
      let H = T.good in
      let a' = all_map (λ z p. part_adds G r.adds p) ts a.1 in
      let m = read_only_each (make_ro_within n) g.words vs ts in
      let kx = row_kept G H (onward_adds r.adds) ts (all_map (λ z p. typed G p) ts a.1) in
      let rest : row (tree_on u) ts ⊑* row (tree_on m.words) m.handles = rw kx at (each_above g.words vs ts T a' (omega arith)) in
      let e = each_nice (make_ro_within n) n (make_ro_nice n) g.words 33 vs ts H a' (omega arith) in
      let k = kept H (good_adds H e.adds) (onward_adds e.adds) g.handle r.part in
      let first : tree_on u t ⊑ tree_on m.words g.handle = rw k (field_above u v t S a.0) in
      first & rest

  module _ (u : List ℕ) (a : ℕ) (S : Distinct u) (p : Part u (suc n) 33 1 11 a) where
    abbrev G : Good u
    G = S.good

    abbrev v : Typed u a
    v = typed G p

    abbrev D : ℕ
    D = depth_on u a

    some : 1 ≤ D
    some = deep G.sound p (omega arith)

    most : D ≤ 32
    most = flat G.sound p

    pointer_above : kind_on u a ≡ 10 → Above u a (pointer_to u a (make_ro_within n u (word u (a + 1))))
    pointer_above k =
        let t = of_pointer G.sound p k in
        let x = word u (a + 1) in
        let px = part_weak n D (omega (arith, p.earlier)) (omega arith) t.to in
        let s = make_ro_within n u x in
        let r = (make_ro_nice n).structs u x D G px in
        let T = grown S r.adds in
        let h : tree_on u x ⊑ tree_on s.words s.handle = ih u x S (part_weak n 33 (omega arith) (omega (arith, most)) (narrow 1 11 px (omega (arith, px.least)) (omega (arith, px.most)))) in
        pick_cond (Above u a) (eqb s.handle x)
        (λ e. rw (kept G T.good (onward_adds r.adds) a v) (⊑_refl (tree_on u a)))
        (λ e. rw (looks G a 10 v k, pointer_tree T D some most s.handle (word u (a + 2)) r.part t.flag) (nd (≤*-refl (flag (word u (a + 2)) ∷ [])) (h & end)))

    struct_above : kind_on u a ≡ 8 → Above u a (read_only_struct_of a (read_only_field_types (make_ro_within n) u a))
    struct_above k =
        let c = count_on u a in
        let ts = (of_struct G.sound p k).types in
        let pa = all_map (λ z x. part_weak n D (omega (arith, p.earlier)) (omega arith) x) (every 3 c (a + 3) u) ts in
        let pa' = all_map (λ z x. part_weak n 33 (omega arith) (omega (arith, most)) x) (every 3 c (a + 3) u) pa in
        let l = every_length 3 c (a + 4) u ∙ sym (every_length 3 c (a + 3) u) in
        let x = each_nice (make_ro_within n) n (make_ro_nice n) u D (flags_on u a) (field_types_on u a) G pa l in
        let m = read_only_field_types (make_ro_within n) u a in
        let hs = m.handles in
        let long = x.long ∙ every_length 3 c (a + 3) u in
        let fs : List ℕ = replicate (length hs) 1 in
        let e = remade_tree S v k m.words x.adds hs fs D some most x.parts long (sym (length-replicate (length hs) 1)) (ones_flags (length hs)) in
        let nv : length hs ≡ length (flags_on u a) = long ∙ sym (every_length 3 c (a + 4) u) in
        let f : flags (flags_on u a) ≤* flags fs = rw nv (to_ones (flags_on u a)) in
        rw (struct_tree G v k, e) (by (is_top u a) (is_bot u a) m.words hs (flags fs) f (each_above u (flags_on u a) (field_types_on u a) S pa' l))
      where
        by : (s t : Bool) (w hs : List ℕ) (fs : List Bool) → flags (flags_on u a) ≤* fs → row (tree_on u) (field_types_on u a) ⊑* row (tree_on w) hs
            → build (tree_on u) (s ⇒ vhi stc ∣ t ⇒ vlo stc ∣ vnode (shape_on u a) (flags (flags_on u a)) (field_types_on u a)) ⊑ build (tree_on w) (s ⇒ vhi stc ∣ t ⇒ vlo stc ∣ vnode (shape_on u a) fs hs)
        by true t w hs fs f p = up same
        by false true w hs fs f p = dn same
        by false false w hs fs f p = nd f p

pub ro_above : (n : ℕ) (u : List ℕ) (a : ℕ) → Distinct u → Part u n 33 1 11 a → Above u a (make_ro_within n u a)
unfolding make_ro_within
ro_above zero u a S p = absurd (omega (arith, p.earlier))
ro_above (suc n) u a S p =
    pick (Above u a) (eqb (kind_on u a) 10) (λ e. pointer_above n (ro_above n) u a S p (eqb-true (kind_on u a) 10 e)) λ n₁.
    pick (Above u a) (eqb (kind_on u a) 8 && not (is_final_of u a)) (λ e. struct_above n (ro_above n) u a S p (struct_kind u a e)) λ n₂.
    ⊑_refl (tree_on u a)
