-- The tree of a struct, and of a struct that is made again from it with other types and finals. Assumes nothing.
use mathlib.Core.Path.{◌≡◌, refl, sym, ap, ◌∙◌}
use mathlib.Core.Logic.{inl, ◌≢◌}
use mathlib.Core.Bool.{Bool, true, false, ◌&&◌}
use mathlib.Core.List.{List, ◌∷◌, map}
use Prim.Native.Nat.{ℕ, ◌+◌, ◌*◌, ◌≤◌}
use native.Mathlib.Omega.{arith}
use borrow.Author.Tests.{eqb-true}
use lib.Dec.{eqb}
use lib.ListN.{length, get_or}
use Rattle.words.specs.Words.{kind_of, count_of}
use Rattle.words.specs.Made.{there}
use Rattle.words.proofs.Sizes.{struct_size_is}
use Rattle.wellformed.specs.Entry.{all, is_flag, is_alias_final}
use Rattle.words.specs.Columns.{every, word, kind_on, count_on, field_types_on, flags_on, name_on, field_names_on}
use Rattle.wellformed.proofs.Bools.{and_left}
use Rattle.call.specs.Adds.{Adds}
use Rattle.call.proofs.Sound.{adds_none}
use Rattle.kept.proofs.Fits.{kind_is, StructParts, struct_fits}
use Rattle.structs.specs.Remade.{fields_with, remake}
use Rattle.structs.proofs.Columns.{half, with_values}
use Rattle.makers.specs.Entries.{field_count, field_names, field_types, field_words, struct_entry}
use Rattle.words.specs.Kinds.{Struct}
use Rattle.parts.specs.Parts.{Good, Part, All}
use Rattle.parts.proofs.Parts.{StructAt, few, of_struct, all_map}
use Rattle.parts.proofs.Spot.{entry_head}
use Rattle.parts.proofs.Good.{adds_word, part_adds, part_used, good_adds, Answers}
use Rattle.rules.specs.Column.{◌⇒◌∣◌}
use Rattle.meet.proofs.Made.{struct_parts, struct_answers}
use Rattle.meet.proofs.Nice.{wide}
use Rattle.trees.proofs.Tree.{stc, Shape, str, node}
use Rattle.meaning.proofs.View.{View, vhi, vlo, vnode, row, build}
use Rattle.meaning.proofs.Values.{flags}
use Rattle.meaning.proofs.Seen.{view_on, sized}
use Rattle.meaning.proofs.Store.{Distinct, Typed, tree_on, typed, row_of, row_in, row_at, row_kind, looks, handle_same, onward_adds, grown, row_kept, word_kept, every_kept, made_tree}
use Rattle.meaning.proofs.Entries.{remade_view, struct_top_typed, tree_struct_top, struct_bot_typed, tree_struct_bot}

-- the shape of the struct at h
abbrev pub shape_on : List ℕ → ℕ → Shape
shape_on u h = str (name_on u h) (field_names_on u h) (map half (flags_on u h))

-- $TOP, $BOT, or another
abbrev pub is_top : List ℕ → ℕ → Bool
is_top u h = eqb (word u (h + 1)) 1 && eqb (count_on u h) 0

abbrev pub is_bot : List ℕ → ℕ → Bool
is_bot u h = eqb (word u (h + 1)) 3 && eqb (count_on u h) 0

abbrev pub seen : List ℕ → ℕ → View → View
seen u h v = is_top u h ⇒ vhi stc ∣ is_bot u h ⇒ vlo stc ∣ v

pub struct_tree : {u : List ℕ} → Good u → {h : ℕ} → Typed u h → kind_on u h ≡ 8 → tree_on u h ≡ build (tree_on u) (seen u h (vnode (shape_on u h) (flags (flags_on u h)) (field_types_on u h)))
struct_tree {u} g {h} p q =
    let x : h + 2 + 1 ≡ h + 3 = omega arith in
    let y : h + 2 + 2 ≡ h + 4 = omega arith in
    looks g h 8 p q ∙ rw (x, y)

module _ {u : List ℕ} (S : Distinct u) {h : ℕ} (p : Typed u h) (q : kind_on u h ≡ 8) where
  abbrev g : Good u
  g = S.good

  pub struct_long : length (row_of g p).words ≡ 2 + 3 * count_on u h
  struct_long =
      let w : get_or (row_of g p).words 0 0 ≡ word u h = sym (entry_head u (row_of g p) (row_in g p)) ∙ ap (word u) (row_at g p) in
      sized u g.sound (row_of g p) (row_in g p) ∙ struct_size_is (get_or (row_of g p).words 0 0) (row_kind g p ∙ q) ∙ ap (λ (x : ℕ). 2 + 3 * count_of x) w

  -- the handles 18 and 20 alone
  pub not_top : h ≢ 18 → is_top u h ≡ false
  not_top ne = go (is_top u h) refl
    where
      go : (t : Bool) → is_top u h ≡ t → t ≡ false
      go true e = absurd (ne (handle_same S h 18 p (struct_top_typed g) (struct_tree g p q ∙ rw (e, tree_struct_top g))))
      go false e = refl

  pub not_bot : h ≢ 20 → is_bot u h ≡ false
  not_bot ne = go (is_bot u h) refl (is_top u h) refl
    where
      go : (t : Bool) → is_bot u h ≡ t → (s : Bool) → is_top u h ≡ s → t ≡ false
      go true e true f = absurd (omega (arith, eqb-true (word u (h + 1)) 3 (and_left (eqb (word u (h + 1)) 3) (eqb (count_on u h) 0) e), eqb-true (word u (h + 1)) 1 (and_left (eqb (word u (h + 1)) 1) (eqb (count_on u h) 0) f)))
      go true e false f = absurd (ne (handle_same S h 20 p (struct_bot_typed g) (struct_tree g p q ∙ rw (f, e, tree_struct_bot g))))
      go false e s f = refl

-- ---- the struct at a, made again once the used words have grown to w

module _ {u : List ℕ} (S : Distinct u) {a : ℕ} (pa : Typed u a) (q : kind_on u a ≡ 8) (w : List ℕ) (x : Adds u (there w 0))
    (hs finals : List ℕ) (D : ℕ) (o : 1 ≤ D) (D₁ : D ≤ 32) (types : All (Part w (length w) D 1 11) hs) (n : length hs ≡ count_on u a)
    (same : length hs ≡ length finals) (flagged : all is_flag finals ≡ true) where
  T : Distinct w
  T = grown S x

  abbrev G : Good w
  G = T.good

  pa' : Part w (length u) 33 1 11 a
  pa' = part_adds S.good x pa

  head : word w a ≡ word u a
  head = adds_word S.good x a (part_used S.good pa)

  s : StructAt w a
  s = of_struct G.sound pa' (ap kind_of head ∙ q)

  count : count_on w a ≡ length hs
  count = ap count_of head ∙ sym n

  few_hs : length hs ≤ 255
  few_hs = omega (arith, few S.good.sound pa, n)

  abbrev fs : List ℕ
  fs = fields_with w (a + 2) hs finals

  parts : StructParts (word w (a + 1)) fs w
  parts = struct_parts (adds_none w 0 G.sound) G (length w) D o D₁ 33 (omega arith) hs types (inl refl) few_hs finals same flagged a s count

  answers : Answers w 33 1 11 (remake a hs finals w)
  answers = wide (struct_answers (adds_none w 0 G.sound) G (length w) D o D₁ 33 (omega arith) hs types (inl refl) few_hs finals same flagged a s count)

  long : length (row_of S.good pa).words ≡ 2 + 3 * count_on u a
  long = struct_long S pa q

  name_is : word w (a + 1) ≡ word u (a + 1)
  name_is = word_kept S.good G (onward_adds x) pa 1 (a + 1) refl (omega (arith, long))

  column : (i p : ℕ) → p ≡ a + i → i ≤ 4 → 2 ≤ i → every 3 (length hs) p w ≡ every 3 (count_on u a) p u
  column i p e l m = rw n (every_kept S.good G (onward_adds x) pa 3 (count_on u a) i p e (omega (arith, long)))

  abbrev e : List ℕ
  e = struct_entry (word w (a + 1)) fs w

  view : view_on e 0 ≡ seen u a (vnode (shape_on u a) (flags finals) hs)
  view =
      let z : a + 2 + 2 ≡ a + 4 = omega arith in
      remade_view w a hs finals same flagged parts ∙ rw (z, name_is, column 2 (a + 2) refl (omega arith) (omega arith), column 4 (a + 4) refl (omega arith) (omega arith), n)

  typed_hs : All (Typed w) hs
  typed_hs = all_map (λ h p. typed G p) hs types

  build_kept : (v : List ℕ) → row (tree_on v) hs ≡ row (tree_on w) hs → build (tree_on v) (seen u a (vnode (shape_on u a) (flags finals) hs)) ≡ build (tree_on w) (seen u a (vnode (shape_on u a) (flags finals) hs))
  build_kept v k = go (is_top u a) (is_bot u a)
    where
      go : (s t : Bool) → build (tree_on v) (s ⇒ vhi stc ∣ t ⇒ vlo stc ∣ vnode (shape_on u a) (flags finals) hs) ≡ build (tree_on w) (s ⇒ vhi stc ∣ t ⇒ vlo stc ∣ vnode (shape_on u a) (flags finals) hs)
      go true t = refl
      go false true = refl
      go false false = ap (node (shape_on u a) (flags finals)) k

  pub remade_tree : tree_on (remake a hs finals w).words (remake a hs finals w).handle ≡ build (tree_on w) (seen u a (vnode (shape_on u a) (flags finals) hs))
  unfolding remake
  remade_tree =
      let v : all is_alias_final (every 3 (length hs) (a + 2 + 2) w) ≡ true = let z : a + 2 + 2 ≡ a + 4 = omega arith in rw (z, ← count) s.values in
      let k = kind_is w Struct (field_count fs) (word w (a + 1) ∷ field_names fs) (field_types fs) (word w (a + 1) ∷ field_words (field_count fs) 0 fs) parts in
      let f = struct_fits (word w (a + 1)) fs w parts (with_values w (a + 2) hs finals same v flagged) in
      let r = remake a hs finals w in
      made_tree w e T f.sized (omega (arith, k)) (omega (arith, k)) answers
      ∙ ap (build (tree_on r.words)) view
      ∙ build_kept r.words (row_kept G (good_adds G answers.adds) (onward_adds answers.adds) hs typed_hs)
