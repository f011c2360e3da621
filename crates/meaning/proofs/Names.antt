-- Where no two entries are equal, two names are the same where their handles are; so two structs have the same shape where meet's tests say so. Assumes nothing.
use mathlib.Core.Path.{◌≡◌, refl, sym, ap₂, ◌∙◌}
use mathlib.Core.Logic.{◌≢◌}
use mathlib.Core.Bool.{true, false, ◌&&◌}
use mathlib.Core.List.{List, ◌∷◌, map}
use Prim.Native.Nat.{ℕ, zero, suc, ◌+◌, ◌/◌, ◌<◌}
use native.Mathlib.Omega.{arith}
use borrow.Author.Tests.{eqb-true, eq-eqb}
use lib.Dec.{eqb}
use Rattle.words.specs.Words.{size_of}
use Rattle.words.specs.Table.{Row, entries, RowIn}
use Rattle.words.proofs.Walk.{size_pos}
use Rattle.words.specs.Columns.{every, word}
use Rattle.wellformed.proofs.Bools.{and_left, and_right, and_both}
use Rattle.words.proofs.Handles.{at_row}
use Rattle.structs.proofs.Columns.{half}
use Rattle.parts.specs.Parts.{Good, NameAt, All}
use Rattle.meet_rules.specs.Names.{same_words, same_name, same_fields}
use Rattle.meaning.proofs.Values.{clash}
use Rattle.meaning.proofs.Store.{Distinct, row_words, same_handle}

-- ---- names

same_every : (u : List ℕ) (n p q : ℕ) → same_words u n p q ≡ true → every 1 n p u ≡ every 1 n q u
unfolding same_words every
same_every u zero p q e = refl
same_every u (suc n) p q e =
    let t = eqb (word u p) (word u q) in
    let r = same_words u n (p + 1) (q + 1) in
    ap₂ ◌∷◌ (eqb-true (word u p) (word u q) (and_left t r e)) (same_every u n (p + 1) (q + 1) (and_right t r e))

words_refl : (u : List ℕ) (n p : ℕ) → same_words u n p p ≡ true
unfolding same_words
words_refl u zero p = refl
words_refl u (suc n) p = and_both (eqb (word u p) (word u p)) (same_words u n (p + 1) (p + 1)) (eq-eqb (word u p) (word u p) refl) (words_refl u n (p + 1))

first_same : (u : List ℕ) (n p q : ℕ) → 0 < n → same_words u n p q ≡ true → word u p ≡ word u q
unfolding same_words
first_same u zero p q l e = absurd (omega arith)
first_same u (suc n) p q l e = eqb-true (word u p) (word u q) (and_left (eqb (word u p) (word u q)) (same_words u n (p + 1) (q + 1)) e)

module _ {u : List ℕ} (g : Good u) where
  abbrev found : {k h : ℕ} → NameAt u k h → (r : Row) × (RowIn r (entries u)) × (r.at ≡ h)
  found {h = h} p = at_row (entries u) h p.entry

  -- the words of a name, read off the used words
  name_words_is : {k h : ℕ} (p : NameAt u k h) → (found p).0.words ≡ every 1 (size_of (word u h)) h u
  name_words_is {h = h} p = row_words g (found p).0 (found p).1 h (found p).2

pub name_handle : {u : List ℕ} → Distinct u → (k l p q : ℕ) → NameAt u k p → NameAt u l q → same_name u p q ≡ true → p ≡ q
name_handle {u} S k l p q a b e =
    let g = S.good in
    let n = size_of (word u p) in
    let h : word u p ≡ word u q = first_same u n p q (size_pos (word u p)) e in
    let x : (found g a).0.words ≡ (found g b).0.words = name_words_is g a ∙ same_every u n p q e ∙ rw h (sym (name_words_is g b)) in
    sym (found g a).2 ∙ same_handle (entries u) (found g a).0 (found g b).0 S.own (found g a).1 (found g b).1 x ∙ (found g b).2

pub other_name : (u : List ℕ) (p q : ℕ) → same_name u p q ≡ false → p ≢ q
other_name u p q e z = clash (rw (← z) (words_refl u (size_of (word u p)) p)) e

-- ---- fields

module _ {u : List ℕ} (S : Distinct u) where
  pub fields_same : (k l n p q : ℕ) → All (NameAt u k) (every 3 n p u) → All (NameAt u l) (every 3 n q u) → same_fields u n p q ≡ true
      → (every 3 n p u ≡ every 3 n q u) × (map half (every 3 n (p + 2) u) ≡ map half (every 3 n (q + 2) u))
  unfolding same_fields every
  fields_same k l zero p q a b e = (refl, refl)
  fields_same k l (suc n) p q a b e =
      let s = same_name u (word u p) (word u q) in
      let t = eqb (word u (p + 2) / 2) (word u (q + 2) / 2) in
      let r = same_fields u n (p + 3) (q + 3) in
      let st = and_left (s && t) r e in
      let ih = fields_same k l n (p + 3) (q + 3) a.1 b.1 (and_right (s && t) r e) in
      let x : p + 2 + 3 ≡ p + 3 + 2 = omega arith in
      let y : q + 2 + 3 ≡ q + 3 + 2 = omega arith in (
        ap₂ ◌∷◌ (name_handle S k l (word u p) (word u q) a.0 b.0 (and_left s t st)) ih.0,
        ap₂ ◌∷◌ (eqb-true (word u (p + 2) / 2) (word u (q + 2) / 2) (and_right s t st)) (rw (x, y) ih.1),
      )

-- fields with the same names and aliases pass the test
pub fields_pass : (u : List ℕ) (n p q : ℕ) → every 3 n p u ≡ every 3 n q u → map half (every 3 n (p + 2) u) ≡ map half (every 3 n (q + 2) u) → same_fields u n p q ≡ true
unfolding same_fields every
fields_pass u zero p q e f = refl
fields_pass u (suc n) p q e f =
    let s = same_name u (word u p) (word u q) in
    let t = eqb (word u (p + 2) / 2) (word u (q + 2) / 2) in
    let x : p + 2 + 3 ≡ p + 3 + 2 = omega arith in
    let y : q + 2 + 3 ≡ q + 3 + 2 = omega arith in
    let a : word u p ≡ word u q = cc in
    let b : every 3 n (p + 3) u ≡ every 3 n (q + 3) u = cc in
    let c : word u (p + 2) / 2 ≡ word u (q + 2) / 2 = cc in
    let d : map half (every 3 n (p + 2 + 3) u) ≡ map half (every 3 n (q + 2 + 3) u) = cc in
    and_both (s && t) (same_fields u n (p + 3) (q + 3)) (and_both s t (rw (← a) (words_refl u (size_of (word u (word u p))) (word u p))) (eq-eqb _ _ c)) (fields_pass u n (p + 3) (q + 3) b (rw (x, y) at d))
