-- The columns of fields that are made again: names and aliases that stand in the words, and the types and finals that are given. Assumes nothing.
use mathlib.Core.Path.{◌≡◌, refl, sym, ap, ◌∙◌}
use mathlib.Core.Bool.{true}
use mathlib.Core.List.{List, [], ◌∷◌, map}
use Prim.Native.Nat.{ℕ, suc, ◌+◌, ◌*◌, ◌/◌, ◌≤◌}
use native.Mathlib.Omega.{arith}
use borrow.Author.Tests.{le-leb, leb-true}
use lib.ListN.{length, get_or}
use Rattle.wellformed.specs.Entry.{all, is_flag, is_alias, is_alias_final}
use Rattle.words.specs.Columns.{every, word}
use Rattle.wellformed.proofs.Bools.{and_left, and_right, and_both}
use Rattle.makers.specs.Entries.{field_count, field_names, field_types, field_aliases, field_finals}
use Rattle.makers.specs.Fit.{ValuesFit}
use Rattle.makers.proofs.Fields.{every_shift}
use Rattle.structs.specs.Remade.{fields_with}

abbrev pub half : ℕ → ℕ
half v = v / 2

-- half of what stands for an alias and a flag is an alias
halves : (l : List ℕ) → all is_alias_final l ≡ true → all is_alias (map half l) ≡ true
unfolding all
halves [] a = refl
halves (x ∷ l) a =
    let low : x ≤ 8589934591 = leb-true _ _ (and_left (is_alias_final x) (all is_alias_final l) a) in
    let h : half x ≤ 4294967295 = omega arith in
    and_both (is_alias (half x)) (all is_alias (map half l)) (le-leb _ _ h) (halves l (and_right (is_alias_final x) (all is_alias_final l) a))

module _ (u : List ℕ) where
  long : (p : ℕ) (types finals : List ℕ) → length types ≡ length finals → length (fields_with u p types finals) ≡ 4 * length types
  unfolding fields_with
  long p [] finals e = refl
  long p (t ∷ types) [] e = absurd (omega arith)
  long p (t ∷ types) (f ∷ finals) e = omega (arith, long (p + 3) types finals (omega arith))

  -- the first field's word, and the column of the others
  next : (j n p t f : ℕ) (types finals : List ℕ)
      → every 4 (suc n) j (fields_with u p (t ∷ types) (f ∷ finals)) ≡ get_or (fields_with u p (t ∷ types) (f ∷ finals)) j 0 ∷ every 4 n j (fields_with u (p + 3) types finals)
  unfolding every fields_with
  next j n p t f types finals =
      let l = fields_with u (p + 3) types finals in
      let a = word u (p + 2) / 2 in
      let q : j + 4 ≡ suc (suc (suc (suc j))) = omega arith in
      ap (λ (c : List ℕ). get_or (word u p ∷ t ∷ a ∷ f ∷ l) j 0 ∷ c)
      (ap (λ (m : ℕ). every 4 n m (word u p ∷ t ∷ a ∷ f ∷ l)) q
      ∙ every_shift 4 n (suc (suc (suc j))) (word u p) (t ∷ a ∷ f ∷ l)
      ∙ every_shift 4 n (suc (suc j)) t (a ∷ f ∷ l)
      ∙ every_shift 4 n (suc j) a (f ∷ l)
      ∙ every_shift 4 n j f l)

  -- a column is any list that has the fields' words one by one
  module _ (j : ℕ) (column : ℕ → List ℕ → List ℕ → List ℕ) (none : (p : ℕ) → column p [] [] ≡ [])
      (more : (p t f : ℕ) (types finals : List ℕ) → column p (t ∷ types) (f ∷ finals) ≡ get_or (fields_with u p (t ∷ types) (f ∷ finals)) j 0 ∷ column (p + 3) types finals) where
    along : (p : ℕ) (types finals : List ℕ) → length types ≡ length finals → every 4 (length types) j (fields_with u p types finals) ≡ column p types finals
    unfolding every
    along p [] [] e = sym (none p)
    along p [] (f ∷ finals) e = absurd (omega arith)
    along p (t ∷ types) [] e = absurd (omega arith)
    along p (t ∷ types) (f ∷ finals) e = next j (length types) p t f types finals ∙ rw (along (p + 3) types finals (omega arith)) (sym (more p t f types finals))

module _ (u : List ℕ) (p : ℕ) (types finals : List ℕ) (same : length types ≡ length finals) where
  pub with_length_is : length (fields_with u p types finals) ≡ 4 * length types
  with_length_is = long u p types finals same

  pub with_count : field_count (fields_with u p types finals) ≡ length types
  with_count = omega (arith, with_length_is)

  pub with_names : field_names (fields_with u p types finals) ≡ every 3 (length types) p u
  unfolding every fields_with
  with_names = rw with_count (along u 0 (λ q ts fs. every 3 (length ts) q u) (λ q. refl) (λ q t f ts fs. refl) p types finals same)

  pub with_types : field_types (fields_with u p types finals) ≡ types
  unfolding fields_with
  with_types = rw with_count (along u 1 (λ q ts fs. ts) (λ q. refl) (λ q t f ts fs. refl) p types finals same)

  pub with_aliases : field_aliases (fields_with u p types finals) ≡ map half (every 3 (length types) (p + 2) u)
  unfolding every fields_with
  with_aliases = rw with_count (along u 2 (λ q ts fs. map half (every 3 (length ts) (q + 2) u)) (λ q. refl) (λ q t f ts fs. go q ts) p types finals same)
    where
      go : (q : ℕ) (ts : List ℕ) → map half (every 3 (suc (length ts)) (q + 2) u) ≡ half (word u (q + 2)) ∷ map half (every 3 (length ts) (q + 3 + 2) u)
      go q ts = let r : q + 2 + 3 ≡ q + 3 + 2 = omega arith in rw r

  pub with_finals : field_finals (fields_with u p types finals) ≡ finals
  unfolding fields_with
  with_finals = rw with_count (along u 3 (λ q ts fs. fs) (λ q. refl) (λ q t f ts fs. refl) p types finals same)

  pub with_values : all is_alias_final (every 3 (length types) (p + 2) u) ≡ true → all is_flag finals ≡ true → ValuesFit (fields_with u p types finals)
  with_values a f = record {
    aliases = ap (all is_alias) with_aliases ∙ halves (every 3 (length types) (p + 2) u) a;
    finals = ap (all is_flag) with_finals ∙ f;
  }
