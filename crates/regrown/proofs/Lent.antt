-- The field list of a struct's words, "lent as name, type, alias, final": its columns are the struct's, and the words written for it are the struct's again. `u` is a list of words with fields from
-- position p on. Assumes nothing.
use mathlib.Core.Path.{◌≡◌, refl, sym, ap, ◌∙◌}
use mathlib.Core.Bool.{true}
use mathlib.Core.List.{List, ◌∷◌}
use Prim.Native.Nat.{ℕ, zero, suc, ◌+◌, ◌*◌, ◌/◌, ◌%◌, ◌≤◌, ◌<◌}
use native.Mathlib.Omega.{arith}
use borrow.Author.Tests.{le-leb, leb-true}
use lib.ListN.{length, drop, get_or, drop_of_length-le}
use lib.Seq.{drop-cons}
use Rattle.wellformed.specs.Entry.{all, is_flag, is_alias, is_alias_final}
use Rattle.wellformed.proofs.Bools.{and_left, and_right, and_both}
use Rattle.words.specs.Columns.{every}
use Rattle.makers.specs.Entries.{field_words}
use Rattle.makers.proofs.Fields.{every_shift}
use Rattle.of_structs.specs.OfStructs.{lent_fields}

-- a field more in front
every_field : (n j a b c d : ℕ) (l : List ℕ) → every 4 n (j + 4) (a ∷ b ∷ c ∷ d ∷ l) ≡ every 4 n j l
every_field n j a b c d l =
    let q : j + 4 ≡ suc (suc (suc (suc j))) = omega arith in
    ap (λ (m : ℕ). every 4 n m (a ∷ b ∷ c ∷ d ∷ l)) q
    ∙ every_shift 4 n (suc (suc (suc j))) a (b ∷ c ∷ d ∷ l)
    ∙ every_shift 4 n (suc (suc j)) b (c ∷ d ∷ l)
    ∙ every_shift 4 n (suc j) c (d ∷ l)
    ∙ every_shift 4 n j d l

-- one word more in front
fields_shift : (n p x : ℕ) (l : List ℕ) → field_words n (suc p) (x ∷ l) ≡ field_words n p l
unfolding field_words
fields_shift zero p x l = refl
fields_shift (suc n) p x l =
    let q₁ : suc p + 1 ≡ suc (p + 1) = omega arith in
    let q₂ : suc p + 2 ≡ suc (p + 2) = omega arith in
    let q₃ : suc p + 3 ≡ suc (p + 3) = omega arith in
    let q₄ : suc p + 4 ≡ suc (p + 4) = omega arith in
    rw (q₁, q₂, q₃, q₄, fields_shift n (p + 4) x l)

module _ (u : List ℕ) where
  -- the first field's word of a column, and the column of the others
  column : (j n p : ℕ) → every 4 (suc n) j (lent_fields (suc n) p u) ≡ get_or (lent_fields (suc n) p u) j 0 ∷ every 4 n j (lent_fields n (p + 3) u)
  unfolding every lent_fields
  column j n p =
      ap (λ (t : List ℕ). get_or (lent_fields (suc n) p u) j 0 ∷ t)
      (every_field n j (get_or u p 0) (get_or u (p + 1) 0) (get_or u (p + 2) 0 / 2) (get_or u (p + 2) 0 % 2) (lent_fields n (p + 3) u))

  -- a column that is one of the struct's
  module _ (j : ℕ) (same : (n p : ℕ) → get_or (lent_fields (suc n) p u) j 0 ≡ get_or u (p + j) 0) where
    lent : (n p : ℕ) → every 4 n j (lent_fields n p u) ≡ every 3 n (p + j) u
    unfolding every
    lent zero p = refl
    lent (suc n) p =
        let q : p + 3 + j ≡ p + j + 3 = omega arith in
        column j n p ∙ rw (same n p, lent n (p + 3), q)

  pub lent_names : (n p : ℕ) → every 4 n 0 (lent_fields n p u) ≡ every 3 n p u
  unfolding lent_fields
  lent_names n p =
      let z : p + 0 ≡ p = omega arith in
      rw z at (lent 0 (λ m k. let q : k ≡ k + 0 = omega arith in ap (λ (i : ℕ). get_or u i 0) q) n p)

  pub lent_types : (n p : ℕ) → every 4 n 1 (lent_fields n p u) ≡ every 3 n (p + 1) u
  unfolding lent_fields
  lent_types = lent 1 (λ m k. refl)

  -- a flags word that a maker can have made has an alias that it takes
  pub lent_aliases : (n p : ℕ) → all is_alias_final (every 3 n (p + 2) u) ≡ true → all is_alias (every 4 n 2 (lent_fields n p u)) ≡ true
  unfolding all every lent_fields
  lent_aliases zero p a = refl
  lent_aliases (suc n) p a =
      let f = get_or u (p + 2) 0 in
      let q : p + 2 + 3 ≡ p + 3 + 2 = omega arith in
      let most : f ≤ 8589934591 = leb-true _ _ (and_left (is_alias_final f) (all is_alias_final (every 3 n (p + 2 + 3) u)) a) in
      let rest : all is_alias_final (every 3 n (p + 3 + 2) u) ≡ true = rw q at (and_right (is_alias_final f) (all is_alias_final (every 3 n (p + 2 + 3) u)) a) in
      let half : f / 2 ≤ 4294967295 = omega arith in
      ap (all is_alias) (column 2 n p) ∙ and_both (is_alias (f / 2)) (all is_alias (every 4 n 2 (lent_fields n (p + 3) u))) (le-leb _ _ half) (lent_aliases n (p + 3) rest)

  -- what is left over is a flag
  pub lent_finals : (n p : ℕ) → all is_flag (every 4 n 3 (lent_fields n p u)) ≡ true
  unfolding all every lent_fields
  lent_finals zero p = refl
  lent_finals (suc n) p =
      let f = get_or u (p + 2) 0 in
      let low : f % 2 ≤ 1 = omega arith in
      ap (all is_flag) (column 3 n p) ∙ and_both (is_flag (f % 2)) (all is_flag (every 4 n 3 (lent_fields n (p + 3) u))) (le-leb _ _ low) (lent_finals n (p + 3))

  -- 2 × alias + final of the two is the word again
  pub lent_back : (n p : ℕ) → length u ≡ p + 3 * n → field_words n 0 (lent_fields n p u) ≡ drop p u
  unfolding field_words lent_fields
  lent_back zero p h = let l : length u ≤ p = omega arith in sym (drop_of_length-le u l)
  lent_back (suc n) p h =
      let f = get_or u (p + 2) 0 in
      let l = lent_fields n (p + 3) u in
      let x = get_or u p 0 in
      let y = get_or u (p + 1) 0 in
      let a = f / 2 in
      let b = f % 2 in
      let again : 2 * (f / 2) + f % 2 ≡ f = omega arith in
      let moved : field_words n 4 (x ∷ y ∷ a ∷ b ∷ l) ≡ field_words n 0 l =
      fields_shift n 3 x (y ∷ a ∷ b ∷ l) ∙ fields_shift n 2 y (a ∷ b ∷ l) ∙ fields_shift n 1 a (b ∷ l) ∙ fields_shift n 0 b l in
      let l₀ : p < length u = omega arith in
      let l₁ : p + 1 < length u = omega arith in
      let l₂ : p + 2 < length u = omega arith in
      let n₁ : suc p ≡ p + 1 = omega arith in
      let n₂ : suc (p + 1) ≡ p + 2 = omega arith in
      let n₃ : suc (p + 2) ≡ p + 3 = omega arith in
      let cut : drop p u ≡ x ∷ y ∷ f ∷ drop (p + 3) u =
      drop-cons u p 0 l₀ ∙ rw (n₁, drop-cons u (p + 1) 0 l₁, n₂, drop-cons u (p + 2) 0 l₂, n₃) in
      cc (again, moved, lent_back n (p + 3) (omega arith), cut)
