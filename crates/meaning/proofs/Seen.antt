-- What the entry at a handle of good used words stands for: its view, by its kind. Assumes nothing.
--
-- $TOP and $BOT are seen by their words, a struct of that name without fields: where no two entries are equal, these are the handles 18 and 20 alone.
use mathlib.Core.Path.{◌≡◌, refl, sym, ◌∙◌}
use mathlib.Core.Bool.{Bool, true, false, ◌&&◌}
use mathlib.Core.List.{List, [], ◌∷◌, map}
use Prim.Native.Nat.{ℕ, suc, ◌+◌, ◌≤◌}
use native.Mathlib.Nat.{le_antisymm}
use native.Mathlib.Omega.{arith}
use borrow.Author.Tests.{eqb-true, eqb-false}
use lib.Dec.{eqb}
use lib.ListN.{length, get_or}
use Rattle.words.specs.Kinds.{Bot, Top, Ctrl, XCtrl, Int, Float, Tuple, Struct, Fref, MemPtr}
use Rattle.words.specs.Words.{size_of}
use Rattle.words.specs.Table.{Row, entries, RowIn}
use Rattle.words.proofs.Sizes.{pair_size, tuple_size, struct_size_is, fref_size}
use Rattle.wellformed.specs.Entry.{kind, count}
use Rattle.words.specs.Columns.{every, word, kind_on, count_on}
use Rattle.call.specs.Adds.{Sound}
use Rattle.structs.proofs.Columns.{half}
use Rattle.parts.proofs.Spot.{entry_head, row_sized, row_word, row_every}
use Rattle.rules.specs.Column.{◌⇒◌∣◌}
use Rattle.trees.proofs.Tree.{all as allTypes, ctl, stc, tup, ptr, str, fre, mem}
use Rattle.meaning.proofs.View.{View, vhi, vlo, vint, vnode}
use Rattle.meaning.proofs.Values.{key, flag, flags, float_view}

-- ---- the view

-- the struct with a name and n fields whose words begin at p
abbrev pub fields_view : List ℕ → ℕ → ℕ → ℕ → View
fields_view u name n p = vnode (str name (every 3 n p u) (map half (every 3 n (p + 2) u))) (flags (every 3 n (p + 2) u)) (every 3 n (p + 1) u)

abbrev pub struct_view : List ℕ → ℕ → ℕ → ℕ → View
struct_view u name n p = eqb name 1 && eqb n 0 ⇒ vhi stc ∣ eqb name 3 && eqb n 0 ⇒ vlo stc ∣ fields_view u name n p

abbrev pub kind_view : ℕ → List ℕ → ℕ → View
kind_view k u h =
    eqb k Bot ⇒ vlo allTypes ∣
    eqb k Top ⇒ vhi allTypes ∣
    eqb k Ctrl ⇒ vlo ctl ∣
    eqb k XCtrl ⇒ vhi ctl ∣
    eqb k Int ⇒ vint (key (word u (h + 1))) (key (word u (h + 2))) ∣
    eqb k Float ⇒ float_view (word u (h + 1)) (word u (h + 2)) ∣
    eqb k Tuple ⇒ vnode tup [] (every 1 (count_on u h) (h + 1) u) ∣
    eqb k Struct ⇒ struct_view u (word u (h + 1)) (count_on u h) (h + 2) ∣
    eqb k Fref ⇒ vnode (fre (word u (h + 1))) [] [] ∣
    eqb k MemPtr ⇒ vnode ptr (flag (word u (h + 2)) ∷ []) (word u (h + 1) ∷ []) ∣
    vnode (mem (word u (h + 1))) [] (word u (h + 2) ∷ [])

unfoldable pub view_on : List ℕ → ℕ → View
view_on u h = kind_view (kind_on u h) u h

-- ---- two columns of the same tests

agree : {A : Type 0} (b : Bool) {x x' y y' : A} → (b ≡ true → x ≡ x') → (b ≡ false → y ≡ y') → (b ⇒ x ∣ y) ≡ (b ⇒ x' ∣ y')
agree true f g = f refl
agree false f g = g refl

past : {n k : ℕ} → n ≤ k → (k ≡ n → ⊥) → suc n ≤ k
past l h = omega arith

-- the last kind, where it is no other
pub eleven : {k : ℕ} → 1 ≤ k → k ≤ 11 → (k ≡ 1 → ⊥) → (k ≡ 2 → ⊥) → (k ≡ 3 → ⊥) → (k ≡ 4 → ⊥) → (k ≡ 5 → ⊥) → (k ≡ 6 → ⊥) → (k ≡ 7 → ⊥) → (k ≡ 8 → ⊥) → (k ≡ 9 → ⊥) → (k ≡ 10 → ⊥) → k ≡ 11
eleven l h n₁ n₂ n₃ n₄ n₅ n₆ n₇ n₈ n₉ n₁₀ = le_antisymm h (past (past (past (past (past (past (past (past (past (past l n₁) n₂) n₃) n₄) n₅) n₆) n₇) n₈) n₉) n₁₀)

-- ---- an entry of sound used words

module _ (u : List ℕ) (s : Sound u) (r : Row) (m : RowIn r (entries u)) where
  abbrev a : ℕ
  a = r.at

  abbrev e : List ℕ
  e = r.words

  abbrev w : ℕ
  w = get_or e 0 0

  abbrev Off : ℕ → Type 0
  Off k = eqb (kind e) k ≡ false

  off : (k : ℕ) → Off k → kind e ≡ k → ⊥
  off k o = eqb-false (kind e) k o

  pub sized : length e ≡ size_of w
  sized = row_sized u s r m

  head : word u a ≡ w
  head = entry_head u r m

  pub three : (k : ℕ) → kind e ≡ k → (k ≡ 0 → ⊥) → (k ≡ 7 → ⊥) → (k ≡ 8 → ⊥) → (k ≡ 9 → ⊥) → 5 ≤ k → k ≤ 11 → length e ≡ 3
  three k q n₀ n₇ n₈ n₉ l h = sized ∙ pair_size w (λ z. n₀ (sym q ∙ z)) (λ z. n₇ (sym q ∙ z)) (λ z. n₈ (sym q ∙ z)) (λ z. n₉ (sym q ∙ z)) (omega arith) (omega arith)

  three_words : length e ≡ 3 → (word u (a + 1) ≡ get_or e 1 0) × (word u (a + 2) ≡ get_or e 2 0)
  three_words l = (row_word u s r m 1 (omega arith), row_word u s r m 2 (omega arith))

  -- the view is that of the entry's words alone
  pub view_row : 1 ≤ kind e → kind e ≤ 11 → view_on u a ≡ view_on e 0
  unfolding view_on
  view_row low high =
      rw head
      (agree (eqb (kind e) Bot) (λ q. refl) λ n₁. agree (eqb (kind e) Top) (λ q. refl) λ n₂.
      agree (eqb (kind e) Ctrl) (λ q. refl) λ n₃. agree (eqb (kind e) XCtrl) (λ q. refl) λ n₄.
      agree (eqb (kind e) Int) (λ q. let t = three_words (three 5 (eqb-true (kind e) 5 q) (omega arith) (omega arith) (omega arith) (omega arith) (omega arith) (omega arith)) in rw (t.0, t.1)) λ n₅.
      agree (eqb (kind e) Float) (λ q. let t = three_words (three 6 (eqb-true (kind e) 6 q) (omega arith) (omega arith) (omega arith) (omega arith) (omega arith) (omega arith)) in rw (t.0, t.1)) λ n₆.
      agree (eqb (kind e) Tuple) (λ q.
      let l = sized ∙ tuple_size w (eqb-true (kind e) 7 q) in
      rw (row_every u s r m 1 (count e) 1 (a + 1) refl (omega arith))) λ n₇.
      agree (eqb (kind e) Struct) (λ q.
      let l = sized ∙ struct_size_is w (eqb-true (kind e) 8 q) in
      let n = count e in
      rw (row_word u s r m 1 (omega arith), row_every u s r m 3 n 2 (a + 2) refl (omega arith), row_every u s r m 3 n 4 (a + 2 + 2) (omega arith) (omega arith), row_every u s r m 3 n 3 (a + 2 + 1) (omega arith) (omega arith))) λ n₈.
      agree (eqb (kind e) Fref) (λ q.
      let l = sized ∙ fref_size w (eqb-true (kind e) 9 q) in
      rw (row_word u s r m 1 (omega arith))) λ n₉.
      agree (eqb (kind e) MemPtr) (λ q. let t = three_words (three 10 (eqb-true (kind e) 10 q) (omega arith) (omega arith) (omega arith) (omega arith) (omega arith) (omega arith)) in rw (t.0, t.1)) λ n₁₀.
      let k : kind e ≡ 11 = last n₁ n₂ n₃ n₄ n₅ n₆ n₇ n₈ n₉ n₁₀ in
      let t = three_words (three 11 k (omega arith) (omega arith) (omega arith) (omega arith) (omega arith) (omega arith)) in rw (t.0, t.1))
    where
      last : Off 1 → Off 2 → Off 3 → Off 4 → Off 5 → Off 6 → Off 7 → Off 8 → Off 9 → Off 10 → kind e ≡ 11
      last n₁ n₂ n₃ n₄ n₅ n₆ n₇ n₈ n₉ n₁₀ = eleven low high (off 1 n₁) (off 2 n₂) (off 3 n₃) (off 4 n₄) (off 5 n₅) (off 6 n₆) (off 7 n₇) (off 8 n₈) (off 9 n₉) (off 10 n₁₀)
