-- The trees of a store in which no two entries are equal: a tree has one handle, and keeps it while entries are added. Assumes nothing.
use mathlib.Core.Path.{◌≡◌, refl, sym, ap, ◌∙◌}
use mathlib.Core.Bool.{Bool, true, ◌&&◌}
use mathlib.Core.List.Memᴰ
use mathlib.Core.List.{List, [], ◌∷◌, ◌++◌}
use Prim.Native.Nat.{ℕ, ◌+◌, ◌*◌, ◌≤◌, ◌<◌}
use native.Mathlib.Omega.{arith}
use borrow.Author.Tests.{eqb-true, eqb-false}
use lib.Dec.{eqb}
use lib.ListN.{length, get_or}
use Rattle.words.specs.Kinds.{Bot, Top, Ctrl, XCtrl, Int, Float, Tuple, Struct, Fref, MemPtr}
use Rattle.words.specs.Words.{size_of, kind_of}
use Rattle.words.specs.Table.{Row, entries, starts, RowIn, Own, first_of}
use Rattle.words.specs.Ran.{HasSize}
use Rattle.words.specs.Made.{Grown, make}
use Rattle.std.specs.Prelude.{Some}
use Rattle.words.proofs.Kept.{make_in}
use Rattle.wellformed.specs.Entry.{kind}
use Rattle.words.specs.Columns.{every, word, kind_on, depth_on, count_on}
use Rattle.call.specs.Keep.{Ends}
use Rattle.call.specs.Adds.{Adds}
use Rattle.words.proofs.Handles.{at_row, at_more}
use Rattle.call.proofs.Sound.{start_used}
use Rattle.kept.proofs.Columns.{every_all}
use Rattle.parts.specs.Parts.{Good, Part, All}
use Rattle.parts.proofs.Spot.{entry_head, row_sized, row_word, row_every}
use Rattle.parts.proofs.Parts.{flat, of_tuple, of_struct, of_pointer, of_memory, all_map}
use Rattle.parts.proofs.Good.{part_used, good_adds, Answers}
use Rattle.trees.proofs.Tree.{Ty, Shape, node}
use Rattle.meaning.proofs.View.{View, vnode, row, build, Before, Earlier, tree, tree_eq, tree_same, tree_kept}
use Rattle.meaning.proofs.Values.{pick, float_view}
use Rattle.meaning.proofs.Seen.{kind_view, struct_view, view_on, view_row, eleven}
use Rattle.meaning.proofs.Back.{unview, entry_is}

-- good used words, no two entries of which are equal, and whose Ints have 64-bit words as their ends
pub record Distinct (u : List ℕ) : Type 0 where
  pub good : Good u
  pub own : Own (entries u)
  pub ends : Ends (entries u)

-- h is the handle of a type
abbrev pub Typed : List ℕ → ℕ → Type 0
Typed u h = Part u (length u) 33 1 11 h

-- what the type at h stands for
abbrev pub tree_on : List ℕ → ℕ → Ty
tree_on u = tree (view_on u)

pub typed : {u : List ℕ} {k d h : ℕ} → Good u → Part u k d 1 11 h → Typed u h
typed {u} {h = h} g p = record { entry = p.entry; earlier = part_used g p; least = p.least; most = p.most; shallow = omega (arith, flat g.sound p) }

-- a struct or a forward reference is a type
pub typed_struct : {u : List ℕ} {k d h : ℕ} → Good u → Part u k d 8 9 h → Typed u h
typed_struct g p = typed g (record { entry = p.entry; earlier = p.earlier; least = omega (arith, p.least); most = omega (arith, p.most); shallow = p.shallow })

-- ---- the row of a handle

pub same_handle : (rs : List Row) (r s : Row) → Own rs → RowIn r rs → RowIn s rs → r.words ≡ s.words → r.at ≡ s.at
same_handle rs r s own i j e = let q : Some r.at ≡ Some s.at = sym (own r i) ∙ ap (first_of rs) e ∙ own s j in cc

-- the words of the entry at h, read off the used words
pub row_words : {u : List ℕ} → Good u → (r : Row) → RowIn r (entries u) → (h : ℕ) → r.at ≡ h → r.words ≡ every 1 (size_of (word u h)) h u
row_words {u} g r m h a =
    let e = r.words in
    let w : get_or e 0 0 ≡ word u h = sym (entry_head u r m) ∙ ap (word u) a in
    let l : length e ≡ size_of (word u h) = row_sized u g.sound r m ∙ ap size_of w in
    let q : h ≡ r.at + 0 = omega arith in
    sym (rw (← l) (row_every u g.sound r m 1 (length e) 0 h q (omega arith)) ∙ every_all e)

module _ {u : List ℕ} (g : Good u) {h : ℕ} (p : Typed u h) where
  pub row_of : Row
  row_of = (at_row (entries u) h p.entry).0

  pub row_in : RowIn row_of (entries u)
  unfolding row_of
  row_in = (at_row (entries u) h p.entry).1

  pub row_at : row_of.at ≡ h
  unfolding row_of
  row_at = (at_row (entries u) h p.entry).2

  pub row_kind : kind row_of.words ≡ kind_on u h
  row_kind = ap kind_of (sym (entry_head u row_of row_in)) ∙ ap (kind_on u) row_at

  pub row_view : view_on u h ≡ view_on row_of.words 0
  row_view = ap (view_on u) (sym row_at) ∙ view_row u g.sound row_of row_in (omega (arith, row_kind, p.least)) (omega (arith, row_kind, p.most))

module _ {u : List ℕ} (S : Distinct u) where
  abbrev g : Good u
  g = S.good

  back : {h : ℕ} (p : Typed u h) → unview u (view_on u h) ≡ (row_of g p).words
  back p = ap (unview u) (row_view g p) ∙ entry_is u g.sound (row_of g p) (row_in g p) (omega (arith, row_kind g p, p.least)) (omega (arith, row_kind g p, p.most)) (S.ends (row_of g p) (row_in g p))

  -- no two handles have one view
  pub view_same : (h k : ℕ) → Typed u h → Typed u k → view_on u h ≡ view_on u k → h ≡ k
  view_same h k p q e =
      let w : (row_of g p).words ≡ (row_of g q).words = sym (back p) ∙ ap (unview u) e ∙ back q in
      sym (row_at g p) ∙ same_handle (entries u) (row_of g p) (row_of g q) S.own (row_in g p) (row_in g q) w ∙ row_at g q

-- ---- parts

module _ {u : List ℕ} (g : Good u) {h : ℕ} (p : Typed u h) where
  before : {d low high : ℕ} → 1 ≤ low → high ≤ 11 → d ≤ 33 → (k : ℕ) → Part u h d low high k → Before (Typed u) h k
  before l m n k q = (record { entry = q.entry; earlier = part_used g q; least = omega (arith, q.least); most = omega (arith, q.most); shallow = omega (arith, q.shallow) }, q.earlier)

  pub all_before : (d low high : ℕ) → 1 ≤ low → high ≤ 11 → d ≤ 33 → (ks : List ℕ) → All (Part u h d low high) ks → All (Before (Typed u) h) ks
  all_before d low high l m n ks = all_map (before l m n) ks

  shallow : depth_on u h ≤ 33
  shallow = omega (arith, flat g.sound p)

  pub parts_earlier : Earlier (Typed u) h (view_on u h)
  unfolding view_on
  parts_earlier =
      let P : View → Type 0 = Earlier (Typed u) h in
      let k = kind_on u h in
      pick P (eqb k Bot) (λ e. tt) λ n₁. pick P (eqb k Top) (λ e. tt) λ n₂. pick P (eqb k Ctrl) (λ e. tt) λ n₃. pick P (eqb k XCtrl) (λ e. tt) λ n₄. pick P (eqb k Int) (λ e. tt) λ n₅.
      pick P (eqb k Float) (λ e. floats (word u (h + 1)) (word u (h + 2))) λ n₆.
      pick P (eqb k Tuple) (λ e. all_before (depth_on u h) 1 11 (omega arith) (omega arith) shallow (every 1 (count_on u h) (h + 1) u) (of_tuple g.sound p (eqb-true k 7 e)).types) λ n₇.
      pick P (eqb k Struct) (λ e. structs (eqb-true k 8 e)) λ n₈.
      pick P (eqb k Fref) (λ e. tt) λ n₉.
      pick P (eqb k MemPtr) (λ e. all_before (depth_on u h) 8 9 (omega arith) (omega arith) shallow (word u (h + 1) ∷ []) ((of_pointer g.sound p (eqb-true k 10 e)).to, tt)) λ n₁₀.
      let q : kind_on u h ≡ 11 = eleven p.least p.most (eqb-false k 1 n₁) (eqb-false k 2 n₂) (eqb-false k 3 n₃) (eqb-false k 4 n₄) (eqb-false k 5 n₅) (eqb-false k 6 n₆) (eqb-false k 7 n₇) (eqb-false k 8 n₈) (eqb-false k 9 n₉) (eqb-false k 10 n₁₀) in
      all_before (depth_on u h) 1 11 (omega arith) (omega arith) shallow (word u (h + 2) ∷ []) ((of_memory g.sound p q).to, tt)
    where
      floats : (s n : ℕ) → Earlier (Typed u) h (float_view s n)
      floats s n = let P : View → Type 0 = Earlier (Typed u) h in pick P (eqb s 0) (λ e. tt) λ n₁. pick P (eqb s 32) (λ e. tt) λ n₂. pick P (eqb s 96) (λ e. tt) λ n₃. pick P (eqb s 128) (λ e. tt) λ n₄. tt

      structs : kind_on u h ≡ 8 → Earlier (Typed u) h (struct_view u (word u (h + 1)) (count_on u h) (h + 2))
      structs q =
          let P : View → Type 0 = Earlier (Typed u) h in
          let n = count_on u h in
          let z : h + 2 + 1 ≡ h + 3 = omega arith in
          pick P (eqb (word u (h + 1)) 1 && eqb n 0) (λ e. tt) λ n₁. pick P (eqb (word u (h + 1)) 3 && eqb n 0) (λ e. tt) λ n₂.
          rw z (all_before (depth_on u h) 1 11 (omega arith) (omega arith) shallow (every 3 n (h + 3) u) (of_struct g.sound p q).types)

-- ---- trees

pub tree_on_is : {u : List ℕ} → Good u → (h : ℕ) → Typed u h → tree_on u h ≡ build (tree_on u) (view_on u h)
tree_on_is {u} g = tree_eq (view_on u) (Typed u) (λ h p. parts_earlier g p)

-- by the kind
pub looks : {u : List ℕ} → Good u → (h k : ℕ) → Typed u h → kind_on u h ≡ k → tree_on u h ≡ build (tree_on u) (kind_view k u h)
unfolding view_on
looks {u} g h k p e = tree_on_is g h p ∙ ap (λ (n : ℕ). build (tree_on u) (kind_view n u h)) e

-- a tree has one handle
pub handle_same : {u : List ℕ} → Distinct u → (h k : ℕ) → Typed u h → Typed u k → tree_on u h ≡ tree_on u k → h ≡ k
handle_same {u} S = tree_same (view_on u) (Typed u) (λ h p. parts_earlier S.good p) (view_same S)

-- ---- growth

-- entries were added behind those of u
pub record Onward (u w : List ℕ) : Type 0 where
  pub extra : List Row
  pub rows : entries w ≡ entries u ++ extra

pub onward_adds : {u : List ℕ} {g : Grown} → Adds u g → Onward u g.words
onward_adds a = record { extra = a.extra; rows = a.rows }

pub grown : {u : List ℕ} {g : Grown} → Distinct u → Adds u g → Distinct g.words
grown S a = record { good = good_adds S.good a; own = a.own S.own; ends = a.ends S.ends }

module _ {u w : List ℕ} (G : Good u) (H : Good w) (o : Onward u w) where
  module _ {h : ℕ} (p : Typed u h) where
    row_still : RowIn (row_of G p) (entries w)
    row_still = rw o.rows (Memᴰ.append_left o.extra (row_in G p))

    head_still : word w h ≡ word u h
    head_still = ap (word w) (sym (row_at G p)) ∙ entry_head w (row_of G p) row_still ∙ sym (entry_head u (row_of G p) (row_in G p)) ∙ ap (word u) (row_at G p)

  pub still : (h : ℕ) → Typed u h → Typed w h
  still h p =
      let e = head_still p in
      let s : starts w h ≡ true = rw o.rows (at_more (entries u) o.extra h p.entry) in
      record { entry = s; earlier = (start_used w H.sound.low h s).1; least = rw e p.least; most = rw e p.most; shallow = rw e p.shallow }

  -- words of the entry at h
  pub word_kept : {h : ℕ} (p : Typed u h) (i q : ℕ) → q ≡ h + i → i < length (row_of G p).words → word w q ≡ word u q
  word_kept {h} p i q e l =
      let z : q ≡ (row_of G p).at + i = omega (arith, row_at G p) in
      ap (word w) z ∙ row_word w H.sound (row_of G p) (row_still p) i l ∙ sym (ap (word u) z ∙ row_word u G.sound (row_of G p) (row_in G p) i l)

  pub every_kept : {h : ℕ} (p : Typed u h) (t n i q : ℕ) → q ≡ h + i → i + t * n < length (row_of G p).words + t → every t n q w ≡ every t n q u
  every_kept {h} p t n i q e l =
      let z : q ≡ (row_of G p).at + i = omega (arith, row_at G p) in
      row_every w H.sound (row_of G p) (row_still p) t n i q z l ∙ sym (row_every u G.sound (row_of G p) (row_in G p) t n i q z l)

  view_kept : (h : ℕ) → Typed u h → view_on w h ≡ view_on u h
  view_kept h p =
      let k = row_kind G p in
      ap (view_on w) (sym (row_at G p)) ∙ view_row w H.sound (row_of G p) (row_still p) (omega (arith, k, p.least)) (omega (arith, k, p.most)) ∙ sym (row_view G p)

  pub kept : (h : ℕ) → Typed u h → tree_on w h ≡ tree_on u h
  kept = tree_kept (view_on u) (view_on w) (Typed u) (Typed w) (λ h p. parts_earlier G p) (λ h p. parts_earlier H p) still view_kept

  pub row_kept : (hs : List ℕ) → All (Typed u) hs → row (tree_on w) hs ≡ row (tree_on u) hs
  row_kept [] p = refl
  row_kept (h ∷ hs) p = rw (kept h p.0, row_kept hs p.1)

-- ---- an entry that is made

module _ (w e : List ℕ) (S : Distinct w) (sized : HasSize e) (low : 1 ≤ kind e) (high : kind e ≤ 11) (r : Answers w 33 1 11 (make w e)) where
  abbrev g' : Grown
  g' = make w e

  after : Good g'.words
  after = good_adds S.good r.adds

  made_view : view_on g'.words g'.handle ≡ view_on e 0
  made_view = view_row g'.words r.adds.sound (record { at = g'.handle; words = e }) (make_in w e S.good.sound.low S.good.sound.full sized) low high

  pub made_tree : tree_on g'.words g'.handle ≡ build (tree_on g'.words) (view_on e 0)
  made_tree = tree_on_is after g'.handle r.part ∙ ap (build (tree_on g'.words)) made_view

  -- around parts that were there
  pub made_node : (s : Shape) (fs : List Bool) (hs : List ℕ) → view_on e 0 ≡ vnode s fs hs → All (Typed w) hs → tree_on g'.words g'.handle ≡ node s fs (row (tree_on w) hs)
  made_node s fs hs v p = made_tree ∙ ap (build (tree_on g'.words)) v ∙ ap (node s fs) (row_kept S.good after (onward_adds r.adds) hs p)
