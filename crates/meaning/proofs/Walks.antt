-- dual gives the dual tree, glb a type above, lub a type below: one proof for the three, over any type. Assumes nothing.
use mathlib.Core.Path.{◌≡◌, refl, sym, ap₂, ◌∙◌}
use mathlib.Core.Logic.{inl}
use mathlib.Core.Bool.{Bool, true, false, not}
use mathlib.Core.List.{List, [], ◌∷◌}
use Prim.Native.Nat.{ℕ, zero, suc, ◌+◌, ◌-◌, ◌*◌, ◌%◌, ◌≤◌, zero-le}
use native.Mathlib.Omega.{arith}
use borrow.Author.Tests.{eqb-true, eqb-false, leb-true}
use lib.Dec.{eqb}
use lib.ListN.{length}
use Rattle.words.specs.Made.{Grown, make}
use Rattle.words.specs.Columns.{every, word, kind_on, depth_on, count_on, field_types_on, flags_on}
use Rattle.call.proofs.Sound.{adds_none}
use Rattle.type_float.specs.Float.{is_size_word}
use Rattle.type_float.specs.Single.{is_single}
use Rattle.type_float.proofs.Size.{each_word}
use Rattle.makers.specs.Entries.{int_entry, float_entry}
use Rattle.makers.proofs.FloatSize.{size_word}
use Rattle.kept.proofs.Fits.{int_fits, float_fits}
use Rattle.parts.specs.Parts.{Good, Part, All}
use Rattle.parts.proofs.Parts.{few, flat, deep, of_tuple, of_struct, of_pointer, of_memory, of_int, of_float, all_map}
use Rattle.parts.proofs.Good.{part_weak, part_adds, good_adds, make_answers}
use Rattle.meet_fields.proofs.Finals.{every_length}
use Rattle.meet.specs.Meet.{Many, tuple_of, pointer_of, memory_of}
use Rattle.meet.proofs.Nice.{narrow}
use Rattle.walk_rules.specs.Tables.{end_of, struct_form, tuple_form, form_for, int_of, float_of, nil_of, final_of, finals_of, walk_fields}
use Rattle.walk_rules.specs.declared.Walk.{Walk}
use Rattle.walk_rules.specs.declared.Walk.TheVariants.{Dual, Glb, Lub}
use Rattle.walk_rules.specs.declared.Form.{Form}
use Rattle.walk_fields.proofs.Finals.{nil_flag, finals_length, finals_flags}
use Rattle.walk.specs.Walk.{walk_each, walk_elements, walk_field_types, walk_struct_of, follow_form, walk_within}
use Rattle.walk.proofs.Nice.{turned_fits, walk_nice, each_nice, each_part}
use Rattle.trees.proofs.Tree.{all as allTypes, ctl, f64, stc, ◌≼◌, any, same, wide, Shape, con, tup, ptr, fre, mem, Ty, hi, lo, node, Tys, ε, ◌◂◌, cls, ◌≤ᵇ◌, off, ◌≤*◌, stop, ◌⨟◌, ◌⊑◌, up, dn, io, nd, ◌⊑*◌, end, ◌&◌, ≤ᵇ_refl, ≤ᵇ_true, ⊑_refl}
use Rattle.trees.proofs.Dual.{dual, dual*, nots}
use Rattle.meaning.proofs.View.{vnode, row, build}
use Rattle.meaning.proofs.Values.{in_64, pick, pick_cond, key_most, flag, flags, flag_not, flag_rest, float_tree, build_float}
use Rattle.meaning.proofs.Store.{Distinct, Typed, tree_on, typed, looks, onward_adds, grown, kept, row_kept, every_kept, made_tree}
use Rattle.meaning.proofs.Entries.{int_view, float_view_is, float_tree_is, tree_bot, tree_top, tree_ctrl, tree_xctrl, tree_struct_top, tree_struct_bot, tree_int_top, tree_int_bot, tree_float_top, tree_float_bot}
use Rattle.meaning.proofs.Around.{tuple_tree, pointer_tree, memory_tree}
use Rattle.meaning.proofs.Families.{each_kind}
use Rattle.meaning.proofs.Structs.{shape_on, is_top, is_bot, seen, struct_tree, struct_long, not_top, not_bot, remade_tree}

-- ---- what each of the three is to give, of types, of lists of types, of flags

abbrev pub Rel : Walk → Ty → Ty → Type 0
Rel Dual t v = v ≡ dual t
Rel Glb t v = t ⊑ v
Rel Lub t v = v ⊑ t

abbrev Rel* : Walk → Tys → Tys → Type 0
Rel* Dual ts vs = vs ≡ dual* ts
Rel* Glb ts vs = ts ⊑* vs
Rel* Lub ts vs = vs ⊑* ts

abbrev Flip : Walk → Bool → Bool → Type 0
Flip Dual f g = g ≡ not f
Flip Glb f g = f ≤ᵇ g
Flip Lub f g = g ≤ᵇ f

abbrev Flip* : Walk → List Bool → List Bool → Type 0
Flip* Dual fs gs = gs ≡ nots fs
Flip* Glb fs gs = fs ≤* gs
Flip* Lub fs gs = gs ≤* fs

rel_node : (w : Walk) (s : Shape) (fs gs : List Bool) (ts vs : Tys) → Flip* w fs gs → Rel* w ts vs → Rel w (node s fs ts) (node s gs vs)
rel_node Dual s fs gs ts vs f p = ap₂ (node s) f p
rel_node Glb s fs gs ts vs f p = nd f p
rel_node Lub s fs gs ts vs f p = nd f p

rel_ε : (w : Walk) → Rel* w ε ε
rel_ε Dual = refl
rel_ε Glb = end
rel_ε Lub = end

rel_◂ : (w : Walk) (t v : Ty) (ts vs : Tys) → Rel w t v → Rel* w ts vs → Rel* w (t ◂ ts) (v ◂ vs)
rel_◂ Dual t v ts vs p q = ap₂ ◌◂◌ p q
rel_◂ Glb t v ts vs p q = p & q
rel_◂ Lub t v ts vs p q = p & q

flip_none : (w : Walk) → Flip* w [] []
flip_none Dual = refl
flip_none Glb = stop
flip_none Lub = stop

flip_more : (w : Walk) (f g : Bool) (fs gs : List Bool) → Flip w f g → Flip* w fs gs → Flip* w (f ∷ fs) (g ∷ gs)
flip_more Dual f g fs gs p q = ap₂ ◌∷◌ p q
flip_more Glb f g fs gs p q = p ⨟ q
flip_more Lub f g fs gs p q = p ⨟ q

-- a struct's finals, a pointer's nil
final_flip : (w : Walk) (v : ℕ) → Flip w (flag v) (flag (final_of w v))
final_flip Dual v = flag_not v
final_flip Glb v = rw (flag_rest v) (≤ᵇ_refl (flag v))
final_flip Lub v = rw (flag_rest v) (≤ᵇ_refl (flag v))

finals_flip : (w : Walk) (vs : List ℕ) → Flip* w (flags vs) (flags (finals_of w vs))
unfolding finals_of
finals_flip w [] = flip_none w
finals_flip w (v ∷ vs) = flip_more w (flag v) (flag (final_of w v)) (flags vs) (flags (finals_of w vs)) (final_flip w v) (finals_flip w vs)

nil_flip : (w : Walk) (v : ℕ) → v ≤ 1 → Flip w (flag v) (flag (nil_of w v))
nil_flip Dual v l = let e : 1 - v ≡ 1 - v % 2 = omega arith in rw e (flag_not v)
nil_flip Glb v l = ≤ᵇ_true (flag v)
nil_flip Lub v l = off

-- ---- Bot, Top, Ctrl and XCtrl

module _ {u : List ℕ} (G : Good u) where
  bot_right : (w : Walk) → Rel w (lo allTypes) (tree_on u (end_of w 1))
  bot_right Dual = tree_top G
  bot_right Glb = rw (tree_bot G) (dn same)
  bot_right Lub = rw (tree_top G) (up any)

  top_right : (w : Walk) → Rel w (hi allTypes) (tree_on u (end_of w 2))
  top_right Dual = tree_bot G
  top_right Glb = rw (tree_bot G) (up any)
  top_right Lub = rw (tree_top G) (up same)

  ctrl_right : (w : Walk) → Rel w (lo ctl) (tree_on u (end_of w 3))
  ctrl_right Dual = tree_xctrl G
  ctrl_right Glb = rw (tree_ctrl G) (dn same)
  ctrl_right Lub = rw (tree_xctrl G) (up same)

  xctrl_right : (w : Walk) → Rel w (hi ctl) (tree_on u (end_of w 4))
  xctrl_right Dual = tree_ctrl G
  xctrl_right Glb = rw (tree_bot G) (dn any)
  xctrl_right Lub = rw (tree_top G) (up any)

-- ---- Ints and Floats

in_float : (s n : ℕ) → f64 ≼ cls (float_tree s n)
in_float s n = let P : Ty → Type 0 = λ t. f64 ≼ cls t in pick P (eqb s 0) (λ e. same) λ e. pick P (eqb s 32) (λ e. wide) λ e. pick P (eqb s 96) (λ e. wide) λ e. pick P (eqb s 128) (λ e. same) λ e. in_64 (is_single n) n

module _ {u : List ℕ} (S : Distinct u) (a : ℕ) (p : Typed u a) where
  abbrev G : Good u
  G = S.good

  int_right : (w : Walk) → kind_on u a ≡ 5 → Rel w (tree_on u a) (tree_on (int_of w a u).words (int_of w a u).handle)
  int_right Dual k =
      let x = word u (a + 1) in
      let y = word u (a + 2) in
      let f = int_fits u y x (λ e. let b = of_int G.sound p k e in (b.1, b.0)) in
      let r = make_answers 33 1 11 (adds_none u 0 G.sound) G (int_entry y x) f (inl refl) (omega arith) (omega arith) (omega arith) in
      made_tree u (int_entry y x) S f.sized (omega arith) (omega arith) r ∙ rw (int_view y x, looks G a 5 p k)
  int_right Glb k = rw (tree_int_bot G, looks G a 5 p k) (io zero-le (key_most (word u (a + 2))))
  int_right Lub k = rw (tree_int_top G, looks G a 5 p k) (io (key_most (word u (a + 1))) zero-le)

  turned : (n s : ℕ) → is_size_word s ≡ true → eqb s 64 ≡ false → float_tree (128 - s) 0 ≡ dual (float_tree s n)
  turned n = each_word (λ s. eqb s 64 ≡ false → float_tree (128 - s) 0 ≡ dual (float_tree s n)) (λ e. refl) (λ e. refl) (λ e. let z : ◌≡◌ {A = ℕ} 0 1 = cc in absurd (omega arith)) (λ e. refl) (λ e. refl)

  float_right : (w : Walk) → kind_on u a ≡ 6 → Rel w (tree_on u a) (tree_on (float_of w a u).words (float_of w a u).handle)
  float_right Dual k =
      let s = word u (a + 1) in
      let n = word u (a + 2) in
      let ok = size_word s n (of_float G.sound p k) in
      pick_cond (λ (g : Grown). tree_on g.words g.handle ≡ dual (tree_on u a)) (eqb s 64) (λ e.
      let t : tree_on u a ≡ node (con (is_single n) n) [] ε = float_tree_is G a p k ∙ rw (eqb-true s 64 e) in
      t ∙ rw t) (λ e.
      let f = float_fits u (128 - s) 0 (turned_fits s n (of_float G.sound p k)) in
      let r = make_answers 33 1 11 (adds_none u 0 G.sound) G (float_entry (128 - s) 0) f (inl refl) (omega arith) (omega arith) (omega arith) in
      made_tree u (float_entry (128 - s) 0) S f.sized (omega arith) (omega arith) r ∙ rw (float_view_is (128 - s) 0, build_float (tree_on (make u (float_entry (128 - s) 0)).words) (128 - s) 0, float_tree_is G a p k) (turned n s ok e))
  float_right Glb k = rw (tree_float_bot G, float_tree_is G a p k) (dn (in_float (word u (a + 1)) (word u (a + 2))))
  float_right Lub k = rw (tree_float_top G, float_tree_is G a p k) (up (in_float (word u (a + 1)) (word u (a + 2))))

-- ---- parts

module _ (w : Walk) (n : ℕ) (ih : (u : List ℕ) (a : ℕ) → Distinct u → Part u n 33 1 11 a → Rel w (tree_on u a) (tree_on (walk_within w n u a).words (walk_within w n u a).handle)) where
  each_right : (u xs : List ℕ) → Distinct u → All (Part u n 33 1 11) xs → Rel* w (row (tree_on u) xs) (row (tree_on (walk_each (walk_within w n) u xs).words) (walk_each (walk_within w n) u xs).handles)
  unfolding walk_each
  each_right u [] S a = rel_ε w
  each_right u (x ∷ xs) S a =
      let G = S.good in
      let r = (walk_nice w n).types u x 33 G a.0 in
      let g = walk_within w n u x in
      let T = grown S r.adds in
      let H = T.good in
      let a' = all_map (λ z p. part_adds G r.adds p) xs a.1 in
      let m = walk_each (walk_within w n) g.words xs in
      let kx = row_kept G H (onward_adds r.adds) xs (all_map (λ z p. typed G p) xs a.1) in
      let rest : Rel* w (row (tree_on u) xs) (row (tree_on m.words) m.handles) = rw kx at (each_right g.words xs T a') in
      let e = each_nice (walk_within w n) n (walk_nice w n) g.words 33 xs H a' in
      let k = kept H (good_adds H e.adds) (onward_adds e.adds) g.handle r.part in
      let first : Rel w (tree_on u x) (tree_on m.words g.handle) = rw k (ih u x S a.0) in
      rel_◂ w (tree_on u x) (tree_on m.words g.handle) (row (tree_on u) xs) (row (tree_on m.words) m.handles) first rest

  module _ (u : List ℕ) (a : ℕ) (S : Distinct u) (p : Part u (suc n) 33 1 11 a) where
    abbrev G' : Good u
    G' = S.good

    abbrev v : Typed u a
    v = typed G' p

    abbrev D : ℕ
    D = depth_on u a

    some : 1 ≤ D
    some = deep G'.sound p (omega arith)

    most : D ≤ 32
    most = flat G'.sound p

    parts_right : (s c q : ℕ) → All (Part u a D 1 11) (every s c q u) → Rel* w (row (tree_on u) (every s c q u)) (row (tree_on (walk_each (walk_within w n) u (every s c q u)).words) (walk_each (walk_within w n) u (every s c q u)).handles)
    parts_right s c q t = each_right u (every s c q u) S (all_map (λ z x. part_weak n 33 (omega (arith, p.earlier)) (omega (arith, most)) x) (every s c q u) t)

    tuples_right : kind_on u a ≡ 7 → Rel w (tree_on u a) (tree_on (tuple_of (walk_elements (walk_within w n) u a)).words (tuple_of (walk_elements (walk_within w n) u a)).handle)
    tuples_right k =
        let c = count_on u a in
        let t = (of_tuple G'.sound p k).types in
        let x = each_part (walk_within w n) n (walk_nice w n) u a 1 c (a + 1) G' (omega (arith, p.earlier)) t in
        let m = walk_elements (walk_within w n) u a in
        let e = tuple_tree (grown S x.adds) D some most m.handles x.parts (omega (arith, few G'.sound p, x.long)) in
        rw (looks G' a 7 v k, e) (rel_node w tup [] [] _ _ (flip_none w) (parts_right 1 c (a + 1) t))

    pointers_right : kind_on u a ≡ 10 → let s = walk_within w n u (word u (a + 1)) in let g = pointer_of (nil_of w (word u (a + 2))) s in Rel w (tree_on u a) (tree_on g.words g.handle)
    pointers_right k =
        let t = of_pointer G'.sound p k in
        let x = word u (a + 1) in
        let px = part_weak n D (omega (arith, p.earlier)) (omega arith) t.to in
        let s = walk_within w n u x in
        let r = (walk_nice w n).structs u x D G' px in
        let nil = word u (a + 2) in
        let e = pointer_tree (grown S r.adds) D some most s.handle (nil_of w nil) r.part (nil_flag w nil t.flag) in
        let h : Rel w (tree_on u x) (tree_on s.words s.handle) = ih u x S (part_weak n 33 (omega arith) (omega (arith, most)) (narrow 1 11 px (omega (arith, px.least)) (omega (arith, px.most)))) in
        rw (looks G' a 10 v k, e)
        (rel_node w ptr (flag nil ∷ []) (flag (nil_of w nil) ∷ []) (tree_on u x ◂ ε) (tree_on s.words s.handle ◂ ε)
        (flip_more w (flag nil) (flag (nil_of w nil)) [] [] (nil_flip w nil (leb-true nil 1 t.flag)) (flip_none w)) (rel_◂ w (tree_on u x) (tree_on s.words s.handle) ε ε h (rel_ε w)))

    memories_right : kind_on u a ≡ 11 → let s = walk_within w n u (word u (a + 2)) in let g = memory_of (word u (a + 1)) s in Rel w (tree_on u a) (tree_on g.words g.handle)
    memories_right k =
        let t = of_memory G'.sound p k in
        let x = word u (a + 2) in
        let px = part_weak n D (omega (arith, p.earlier)) (omega arith) t.to in
        let s = walk_within w n u x in
        let r = (walk_nice w n).types u x D G' px in
        let e = memory_tree (grown S r.adds) D some most (word u (a + 1)) s.handle r.part t.alias in
        let h = ih u x S (part_weak n 33 (omega arith) (omega (arith, most)) px) in
        rw (looks G' a 11 v k, e)
        (rel_node w (mem (word u (a + 1))) [] [] (tree_on u x ◂ ε) (tree_on s.words s.handle ◂ ε) (flip_none w) (rel_◂ w (tree_on u x) (tree_on s.words s.handle) ε ε h (rel_ε w)))

    -- ---- structs

    module _ (k : kind_on u a ≡ 8) where
      abbrev m : Many
      m = walk_field_types (walk_within w n) u a

      fields_tree : let g = walk_struct_of w a m in tree_on g.words g.handle ≡ build (tree_on m.words) (seen u a (vnode (shape_on u a) (flags (finals_of w (flags_on u a))) m.handles))
      unfolding walk_fields
      fields_tree =
          let c = count_on u a in
          let t = (of_struct G'.sound p k).types in
          let x = each_part (walk_within w n) n (walk_nice w n) u a 3 c (a + 3) G' (omega (arith, p.earlier)) t in
          let hs = m.handles in
          let H = (grown S x.adds).good in
          let l = x.long in
          let e : every 3 (length hs) (a + 4) m.words ≡ flags_on u a = rw l (every_kept G' H (onward_adds x.adds) v 3 c 4 (a + 4) refl (omega (arith, struct_long S v k))) in
          let fs = finals_of w (flags_on u a) in
          let same : length hs ≡ length fs = l ∙ sym (finals_length w (flags_on u a) ∙ every_length 3 c (a + 4) u) in
          rw e (remade_tree S v k m.words x.adds hs fs D some most x.parts l same (finals_flags w (flags_on u a)))

      types_right : Rel* w (row (tree_on u) (field_types_on u a)) (row (tree_on m.words) m.handles)
      types_right = parts_right 3 (count_on u a) (a + 3) (of_struct G'.sound p k).types

      -- a struct that is neither $TOP nor $BOT
      named_right : is_top u a ≡ false → is_bot u a ≡ false → let g = walk_struct_of w a m in Rel w (tree_on u a) (tree_on g.words g.handle)
      named_right nt nb =
          let la : tree_on u a ≡ node (shape_on u a) (flags (flags_on u a)) (row (tree_on u) (field_types_on u a)) = struct_tree G' v k ∙ rw (nt, nb) in
          let e : tree_on (walk_struct_of w a m).words (walk_struct_of w a m).handle ≡ node (shape_on u a) (flags (finals_of w (flags_on u a))) (row (tree_on m.words) m.handles) = fields_tree ∙ rw (nt, nb) in
          rw (la, e) (rel_node w (shape_on u a) (flags (flags_on u a)) (flags (finals_of w (flags_on u a))) (row (tree_on u) (field_types_on u a)) (row (tree_on m.words) m.handles) (finals_flip w (flags_on u a)) types_right)

      -- glb and lub keep $TOP and $BOT, which have no fields
      kept_right : ((t : Ty) → Rel w t t) → let g = walk_struct_of w a m in Rel w (tree_on u a) (tree_on g.words g.handle)
      kept_right keep = go (is_top u a) refl (is_bot u a) refl
        where
          go : (s : Bool) → is_top u a ≡ s → (t : Bool) → is_bot u a ≡ t → let g = walk_struct_of w a m in Rel w (tree_on u a) (tree_on g.words g.handle)
          go true x t y =
              let la : tree_on u a ≡ hi stc = struct_tree G' v k ∙ rw x in
              let e : tree_on (walk_struct_of w a m).words (walk_struct_of w a m).handle ≡ hi stc = fields_tree ∙ rw x in
              rw (la, e) (keep (hi stc))
          go false x true y =
              let la : tree_on u a ≡ lo stc = struct_tree G' v k ∙ rw (x, y) in
              let e : tree_on (walk_struct_of w a m).words (walk_struct_of w a m).handle ≡ lo stc = fields_tree ∙ rw (x, y) in
              rw (la, e) (keep (lo stc))
          go false x false y = named_right x y

-- ---- each form

abbrev Right₁ : Walk → List ℕ → ℕ → Grown → Type 0
Right₁ w u a g = Rel w (tree_on u a) (tree_on g.words g.handle)

abbrev Walks : Walk → ℕ → Type 0
Walks w n = (u : List ℕ) (a : ℕ) → Distinct u → Part u n 33 1 11 a → Right₁ w u a (walk_within w n u a)

tuple_form_is : (w : Walk) (n : ℕ) → Walks w n → (u : List ℕ) (a : ℕ) → Distinct u → Part u (suc n) 33 1 11 a → kind_on u a ≡ 7 → Right₁ w u a (follow_form w (walk_within w n) u a (tuple_form w))
unfolding follow_form
tuple_form_is Dual n ih u a S p k = tuples_right Dual n ih u a S p k
tuple_form_is Glb n ih u a S p k = tuples_right Glb n ih u a S p k
tuple_form_is Lub n ih u a S p k = rw (looks S.good a 7 (typed S.good p) k, tree_top S.good) (up any)

struct_form_is : (w : Walk) (n : ℕ) → Walks w n → (u : List ℕ) (a : ℕ) → Distinct u → Part u (suc n) 33 1 11 a → kind_on u a ≡ 8 → Right₁ w u a (follow_form w (walk_within w n) u a (struct_form w a))
unfolding follow_form
struct_form_is Dual n ih u a S p k =
    let G = S.good in
    let Q : Form → Type 0 = λ f. Right₁ Dual u a (follow_form Dual (walk_within Dual n) u a f) in
    pick Q (eqb a 18) (λ e. rw (eqb-true a 18 e, tree_struct_top G) (tree_struct_bot G)) λ n₁.
    pick Q (eqb a 20) (λ e. rw (eqb-true a 20 e, tree_struct_bot G) (tree_struct_top G)) λ n₂.
    named_right Dual n ih u a S p k (not_top S (typed G p) k (eqb-false a 18 n₁)) (not_bot S (typed G p) k (eqb-false a 20 n₂))
struct_form_is Glb n ih u a S p k = kept_right Glb n ih u a S p k ⊑_refl
struct_form_is Lub n ih u a S p k = kept_right Lub n ih u a S p k ⊑_refl

fref_form : (w : Walk) (x : ℕ) → Rel w (node (fre x) [] ε) (node (fre x) [] ε)
fref_form Dual x = refl
fref_form Glb x = ⊑_refl (node (fre x) [] ε)
fref_form Lub x = ⊑_refl (node (fre x) [] ε)

pub walk_right : (w : Walk) (n : ℕ) → Walks w n
unfolding walk_within follow_form form_for
walk_right w zero u a S p = absurd (omega (arith, p.earlier))
walk_right w (suc n) u a S p = by_kind (walk_right w n)
  where
    by_kind : Walks w n → Right₁ w u a (follow_form w (walk_within w n) u a (form_for w a (kind_on u a)))
    by_kind ih =
        let G = S.good in
        let v = typed G p in
        let k = kind_on u a in
        each_kind (λ j. k ≡ j → Right₁ w u a (follow_form w (walk_within w n) u a (form_for w a j)))
        (λ e. rw (looks G a 1 v e) (bot_right G w))
        (λ e. rw (looks G a 2 v e) (top_right G w))
        (λ e. rw (looks G a 3 v e) (ctrl_right G w))
        (λ e. rw (looks G a 4 v e) (xctrl_right G w))
        (λ e. int_right S a v w e)
        (λ e. float_right S a v w e)
        (λ e. tuple_form_is w n ih u a S p e)
        (λ e. struct_form_is w n ih u a S p e)
        (λ e. rw (looks G a 9 v e) (fref_form w (word u (a + 1))))
        (λ e. pointers_right w n ih u a S p e)
        (λ e. memories_right w n ih u a S p e)
        k p.least p.most refl
