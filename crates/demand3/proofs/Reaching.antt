-- A type that does not reach a kind has no shape of that kind in its tree. Assumes nothing.
use mathlib.Core.Path.{◌≡◌, refl, sym, ap, ◌∙◌}
use mathlib.Core.Bool.{Bool, true, false, ◌&&◌, ◌||◌}
use mathlib.Core.List.{List, [], ◌∷◌}
use Prim.Native.Nat.{ℕ, zero, suc, ◌+◌, ◌≤◌, ◌<◌}
use native.Mathlib.Omega.{arith}
use lib.Dec.{eqb}
use lib.ListN.{length, take, drop, get_or}
use lib.Seq.{drop-cons}
use Rattle.words.specs.Words.{size_of}
use Rattle.wellformed.specs.Entry.{kind, count, types_in}
use Rattle.words.specs.Columns.{every, word, kind_on}
use Rattle.meet_fields.proofs.Finals.{every_length}
use Rattle.parts.specs.Parts.{Good, All}
use Rattle.parts.proofs.Spot.{row_inside}
use Rattle.trees.proofs.Tree.{Shape, con, tup, ptr, str, fre, mem}
use Rattle.trees.proofs.Free.{is_mem, is_fre, Lacks, Lacks*, lhi, llo, lint, lnode, lend, lmore, NoMem, NoFre}
use Rattle.demand3.specs.Demand3.{entry_on, some, reaches_within, reaches}
use Rattle.meaning.proofs.View.{View, vhi, vlo, vint, vnode, row, build, Before, Earlier}
use Rattle.meaning.proofs.Values.{pick, float_view}
use Rattle.meaning.proofs.Seen.{kind_view, struct_view, view_on}
use Rattle.meaning.proofs.Store.{Typed, tree_on, row_words, row_of, row_in, row_at, row_kind, row_view, parts_earlier, tree_on_is}
use Rattle.meaning.proofs.Families.{each_kind}

-- ---- the words of an entry

take_every : (n p : ℕ) (u : List ℕ) → p + n ≤ length u → take n (drop p u) ≡ every 1 n p u
unfolding every
take_every zero p u l = refl
take_every (suc n) p u l =
    let q : suc p ≡ p + 1 = omega arith in
    rw (drop-cons u p 0 (omega arith)) (ap (λ (t : List ℕ). get_or u p 0 ∷ t) (rw q (take_every n (p + 1) u (omega arith))))

module _ {u : List ℕ} (g : Good u) {h : ℕ} (p : Typed u h) where
  abbrev e : List ℕ
  e = (row_of g p).words

  pub entry_words : entry_on u h ≡ e
  entry_words =
      let w = row_words g (row_of g p) (row_in g p) h (row_at g p) in
      let n = size_of (word u h) in
      let l : length e ≡ n = ap length w ∙ every_length 1 n h u in
      take_every n h u (omega (arith, row_inside u g.sound (row_of g p) (row_in g p), l, row_at g p)) ∙ sym w

-- ---- the kind of a shape

abbrev kind_of_shape : Shape → ℕ
kind_of_shape (con b n) = 6
kind_of_shape tup = 7
kind_of_shape ptr = 10
kind_of_shape (str n ns as₁) = 8
kind_of_shape (fre n) = 9
kind_of_shape (mem a) = 11

abbrev parts_of : View → List ℕ
parts_of (vhi c) = []
parts_of (vlo c) = []
parts_of (vint x y) = []
parts_of (vnode s fs ks) = ks

abbrev Shaped : (Shape → Type 0) → View → Type 0
Shaped P (vhi c) = Unit {0}
Shaped P (vlo c) = Unit {0}
Shaped P (vint x y) = Unit {0}
Shaped P (vnode s fs ks) = P s

-- the view of an entry has its types as parts, and a shape of its kind
module _ (e : List ℕ) where
  abbrev Told : ℕ → View → Type 0
  Told k v = (p : ℕ → Bool) → some p (types_in e) ≡ false → (some p (parts_of v) ≡ false) × Shaped (λ s. kind_of_shape s ≡ k) v

  float_told : (s n : ℕ) → Told 6 (float_view s n)
  unfolding some
  float_told s n = pick (Told 6) (eqb s 0) (λ q p f. (refl, tt)) λ q₁. pick (Told 6) (eqb s 32) (λ q p f. (refl, tt)) λ q₂. pick (Told 6) (eqb s 96) (λ q p f. (refl, tt)) λ q₃. pick (Told 6) (eqb s 128) (λ q p f. (refl, tt)) λ q₄. λ p f. (refl, refl)

  struct_told : kind e ≡ 8 → Told 8 (struct_view e (get_or e 1 0) (count e) 2)
  unfolding some types_in
  struct_told k =
      pick (Told 8) (eqb (get_or e 1 0) 1 && eqb (count e) 0) (λ q p f. (refl, tt)) λ q₁. pick (Told 8) (eqb (get_or e 1 0) 3 && eqb (count e) 0) (λ q p f. (refl, tt)) λ q₂.
      λ p f. ((rw k at f), refl)

  kind_told : (k : ℕ) → 1 ≤ k → k ≤ 11 → kind e ≡ k → Told k (kind_view k e 0)
  unfolding some types_in
  kind_told =
      each_kind (λ k. kind e ≡ k → Told k (kind_view k e 0))
      (λ q p f. (refl, tt)) (λ q p f. (refl, tt)) (λ q p f. (refl, tt)) (λ q p f. (refl, tt)) (λ q p f. (refl, tt))
      (λ q. float_told (get_or e 1 0) (get_or e 2 0))
      (λ q p f. ((rw q at f), refl))
      struct_told
      (λ q p f. (refl, refl))
      (λ q p f. ((rw q at f), refl))
      (λ q p f. ((rw q at f), refl))

-- ---- trees

or_false_left : (a b : Bool) → (a || b) ≡ false → a ≡ false
or_false_left true b e = e
or_false_left false b e = refl

or_false_right : (a b : Bool) → (a || b) ≡ false → b ≡ false
or_false_right true b e = let z : ◌≡◌ {A = ℕ} 0 1 = cc in absurd (omega arith)
or_false_right false b e = e

-- the shapes that are bad are those of the kind k
module _ (bad : Shape → Bool) (k : ℕ) (marks : (s : Shape) → bad s ≡ eqb (kind_of_shape s) k) {u : List ℕ} (g : Good u) where
  module _ (n : ℕ) (ih : (h : ℕ) → Typed u h → h < n → reaches_within n u k h ≡ false → Lacks bad (tree_on u h)) (h : ℕ) (l : h ≤ n) where
    row_lacks : (ks : List ℕ) → All (Before (Typed u) h) ks → some (reaches_within n u k) ks ≡ false → Lacks* bad (row (tree_on u) ks)
    unfolding some
    row_lacks [] a f = lend
    row_lacks (x ∷ ks) a f =
        let s = reaches_within n u k x in
        let t = some (reaches_within n u k) ks in
        lmore (ih x a.0.0 (omega (arith, a.0.1)) (or_false_left s t f)) (row_lacks ks a.1 (or_false_right s t f))

    view_lacks : (j : ℕ) (v : View) → eqb j k ≡ false → Earlier (Typed u) h v → some (reaches_within n u k) (parts_of v) ≡ false → Shaped (λ s. kind_of_shape s ≡ j) v → Lacks bad (build (tree_on u) v)
    view_lacks j (vhi c) o a f s = lhi
    view_lacks j (vlo c) o a f s = llo
    view_lacks j (vint x y) o a f s = lint
    view_lacks j (vnode x fs ks) o a f s = lnode (marks x ∙ rw s o) (row_lacks ks a f)

  lacks_within : (n h : ℕ) → Typed u h → h < n → reaches_within n u k h ≡ false → Lacks bad (tree_on u h)
  unfolding reaches_within view_on
  lacks_within zero h p l f = absurd (omega arith)
  lacks_within (suc n) h p l f = by (lacks_within n)
    where
      by : ((x : ℕ) → Typed u x → x < n → reaches_within n u k x ≡ false → Lacks bad (tree_on u x)) → Lacks bad (tree_on u h)
      by ih =
          let e = (row_of g p).words in
          let j = kind_on u h in
          let rest = some (reaches_within n u k) (types_in (entry_on u h)) in
          let o = or_false_left (eqb j k) rest f in
          let t : some (reaches_within n u k) (types_in e) ≡ false = rw (entry_words g p) at (or_false_right (eqb j k) rest f) in
          let v : view_on u h ≡ kind_view (kind e) e 0 = row_view g p in
          let a : Earlier (Typed u) h (kind_view (kind e) e 0) = rw v at (parts_earlier g p) in
          let told = kind_told e (kind e) (omega (arith, row_kind g p, p.least)) (omega (arith, row_kind g p, p.most)) refl (reaches_within n u k) t in
          let o₁ : eqb (kind e) k ≡ false = rw (row_kind g p) o in
          rw (tree_on_is g h p, v) (view_lacks n ih h (omega arith) (kind e) (kind_view (kind e) e 0) o₁ a told.0 told.1)

mem_marks : (s : Shape) → is_mem s ≡ eqb (kind_of_shape s) 11
mem_marks (con b n) = refl
mem_marks tup = refl
mem_marks ptr = refl
mem_marks (str n ns as₁) = refl
mem_marks (fre n) = refl
mem_marks (mem a) = refl

fre_marks : (s : Shape) → is_fre s ≡ eqb (kind_of_shape s) 9
fre_marks (con b n) = refl
fre_marks tup = refl
fre_marks ptr = refl
fre_marks (str n ns as₁) = refl
fre_marks (fre n) = refl
fre_marks (mem a) = refl

pub no_mem : {u : List ℕ} → Good u → (h : ℕ) → Typed u h → reaches u 11 h ≡ false → NoMem (tree_on u h)
no_mem g h p = lacks_within is_mem 11 mem_marks g (suc h) h p (omega arith)

pub no_fre : {u : List ℕ} → Good u → (h : ℕ) → Typed u h → reaches u 9 h ≡ false → NoFre (tree_on u h)
no_fre g h p = lacks_within is_fre 9 fre_marks g (suc h) h p (omega arith)
