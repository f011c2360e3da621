-- Words of an entry that stand apart: a tuple's elements, the columns of a struct's fields. Assumes nothing.
use mathlib.Core.Path.{◌≡◌, refl, ap, ◌∙◌}
use mathlib.Core.Bool.{true}
use mathlib.Core.List.{List, [], ◌∷◌}
use Prim.Native.Nat.{ℕ, zero, suc, ◌+◌, ◌*◌, ◌≤◌}
use native.Mathlib.Omega.{arith}
use borrow.Author.Tests.{le-leb, leb-true}
use lib.ListN.{length, get_or}
use Rattle.wellformed.specs.Entry.{all, is_flag, is_alias, is_alias_final}
use Rattle.words.specs.Columns.{every}
use Rattle.wellformed.proofs.Bools.{and_left, and_right, and_both}
use Rattle.makers.specs.Entries.{field_words}
use Rattle.makers.proofs.Fields.{every_shift}

-- all words
pub every_all : (l : List ℕ) → every 1 (length l) 0 l ≡ l
unfolding every
every_all [] = refl
every_all (x ∷ l) = ap (λ (t : List ℕ). x ∷ t) (every_shift 1 (length l) 0 x l ∙ every_all l)

-- ---- the three columns of fields

module _ (fs : List ℕ) where
  abbrev value : ℕ → ℕ
  value p = 2 * get_or fs (p + 2) 0 + get_or fs (p + 3) 0

  -- the first field's word, and the column of the others
  pub column : (j n p : ℕ) → every 3 (suc n) j (field_words (suc n) p fs) ≡ get_or (field_words (suc n) p fs) j 0 ∷ every 3 n j (field_words n (p + 4) fs)
  unfolding every field_words
  column j n p =
      let l = field_words n (p + 4) fs in
      let q : j + 3 ≡ suc (suc (suc j)) = omega arith in
      ap (λ (t : List ℕ). get_or (field_words (suc n) p fs) j 0 ∷ t)
      (ap (λ (m : ℕ). every 3 n m (get_or fs p 0 ∷ get_or fs (p + 1) 0 ∷ value p ∷ l)) q
      ∙ every_shift 3 n (suc (suc j)) (get_or fs p 0) (get_or fs (p + 1) 0 ∷ value p ∷ l)
      ∙ every_shift 3 n (suc j) (get_or fs (p + 1) 0) (value p ∷ l)
      ∙ every_shift 3 n j (value p) l)

  -- a column that is one of the lent fields'
  module _ (j : ℕ) (same : (n p : ℕ) → get_or (field_words (suc n) p fs) j 0 ≡ get_or fs (p + j) 0) where
    lent : (n p : ℕ) → every 3 n j (field_words n p fs) ≡ every 4 n (p + j) fs
    unfolding every
    lent zero p = refl
    lent (suc n) p =
        let q : p + 4 + j ≡ p + j + 4 = omega arith in
        column j n p ∙ rw (same n p, lent n (p + 4), q)

  pub names_apart : (n : ℕ) → every 3 n 0 (field_words n 0 fs) ≡ every 4 n 0 fs
  unfolding field_words
  names_apart n = lent 0 (λ m p. let q : p ≡ p + 0 = omega arith in ap (λ (i : ℕ). get_or fs i 0) q) n 0

  pub types_apart : (n : ℕ) → every 3 n 1 (field_words n 0 fs) ≡ every 4 n 1 fs
  unfolding field_words
  types_apart n = lent 1 (λ m p. refl) n 0

  pub values_apart : (n p : ℕ) → all is_alias (every 4 n (p + 2) fs) ≡ true → all is_flag (every 4 n (p + 3) fs) ≡ true → all is_alias_final (every 3 n 2 (field_words n p fs)) ≡ true
  unfolding all every field_words
  values_apart zero p a f = refl
  values_apart (suc n) p a f =
      let qa : p + 2 + 4 ≡ p + 4 + 2 = omega arith in
      let qf : p + 3 + 4 ≡ p + 4 + 3 = omega arith in
      let al : get_or fs (p + 2) 0 ≤ 4294967295 = leb-true _ _ (and_left (is_alias (get_or fs (p + 2) 0)) (all is_alias (every 4 n (p + 2 + 4) fs)) a) in
      let fl : get_or fs (p + 3) 0 ≤ 1 = leb-true _ _ (and_left (is_flag (get_or fs (p + 3) 0)) (all is_flag (every 4 n (p + 3 + 4) fs)) f) in
      let aa : all is_alias (every 4 n (p + 4 + 2) fs) ≡ true = rw qa at (and_right (is_alias (get_or fs (p + 2) 0)) (all is_alias (every 4 n (p + 2 + 4) fs)) a) in
      let ff : all is_flag (every 4 n (p + 4 + 3) fs) ≡ true = rw qf at (and_right (is_flag (get_or fs (p + 3) 0)) (all is_flag (every 4 n (p + 3 + 4) fs)) f) in
      let v : value p ≤ 8589934591 = omega arith in
      ap (all is_alias_final) (column 2 n p) ∙ (and_both (is_alias_final (value p)) (all is_alias_final (every 3 n 2 (field_words n (p + 4) fs))) (le-leb _ _ v) (values_apart n (p + 4) aa ff))
