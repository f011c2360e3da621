-- The field list: what a loop has written, and what is left. `u` is the used words, s a struct. Assumes nothing.
use mathlib.Core.Path.{◌≡◌, refl}
use mathlib.Core.List.{List, [], ◌∷◌, ◌++◌}
use Prim.Native.Nat.{ℕ, zero, suc, ◌+◌, ◌-◌, ◌*◌, ◌/◌, ◌%◌, ◌≤◌, ◌<◌}
use native.Mathlib.Omega.{arith}
use native.Mathlib.Nat.{sub-zero}
use borrow.Rule.Slice.PartMut.{put_mid}
use lib.ListN.{length, take, drop}
use Rattle.words.specs.Columns.{word, count_on}
use Rattle.words.proofs.Written.{written_on, written_all}
use Rattle.makers.proofs.Fields.{put_at}
use Rattle.of_structs.specs.OfStructs.{lent_fields, field_list}

-- four words a field
pub lent_length : (n p : ℕ) (u : List ℕ) → length (lent_fields n p u) ≡ 4 * n
unfolding lent_fields
lent_length zero p u = refl
lent_length (suc n) p u = omega (arith, lent_length n (p + 3) u)

-- what is left when i of n fields are written
abbrev pub lent_left : List ℕ → ℕ → ℕ → ℕ → List ℕ
lent_left u s n i = lent_fields (n - i) (s + 2 + 3 * i) u

pub lent_begin : (u : List ℕ) (s w : ℕ) → w ≡ word u s → lent_left u s (w / 65536) 0 ≡ field_list u s
lent_begin u s w e = let q : s + 2 + 3 * 0 ≡ s + 2 = omega arith in rw (sub-zero (w / 65536), q, e)

module _ (u : List ℕ) (s n : ℕ) (d₀ d : List ℕ) (i : ℕ) (sum : take (4 * i) d ++ lent_left u s n i ≡ field_list u s) (rest : drop (4 * i) d ≡ drop (4 * i) d₀) where
  pub lent_on : i < n → 4 * n ≤ length d₀ → length d ≡ length d₀ → (x y f : ℕ) → x ≡ word u (s + 2 + 3 * i) → y ≡ word u (s + 2 + 3 * i + 1) → f ≡ word u (s + 2 + 3 * i + 2)
      → (e : List ℕ) → e ≡ (x ∷ y ∷ (f / 2) ∷ (f % 2) ∷ []) ++ drop 4 (take (length d - 4 * i) (drop (4 * i) d))
      → (take (4 * (i + 1)) (put_mid (4 * i) (length d - 4 * i) d e) ++ lent_left u s n (i + 1) ≡ field_list u s)
      × (drop (4 * (i + 1)) (put_mid (4 * i) (length d - 4 * i) d e) ≡ drop (4 * (i + 1)) d₀)
  unfolding lent_fields
  lent_on more room size x y f ex ey ef e is =
      let E : List ℕ = x ∷ y ∷ (f / 2) ∷ (f % 2) ∷ [] in
      let h : 4 * i ≤ length d = omega arith in
      let m : 4 * (i + 1) ≡ 4 * i + 4 = omega arith in
      let p : s + 2 + 3 * (i + 1) ≡ s + 2 + 3 * i + 3 = omega arith in
      let k : n - i ≡ suc (n - (i + 1)) = omega arith in
      let next : lent_left u s n i ≡ E ++ lent_left u s n (i + 1) = rw (k, p, ex, ey, ef) in
      written_on d₀ d _ _ (4 * i) sum rest E (put_mid (4 * i) (length d - 4 * i) d e) _ (4 * (i + 1)) h m (put_at d E e (4 * i) is) next

  pub lent_all : n ≡ count_on u s → i ≤ n → n ≤ i → d ≡ field_list u s ++ drop (length (field_list u s)) d₀
  unfolding lent_fields
  lent_all e low high =
      let q : length (field_list u s) ≡ 4 * i = omega (arith, lent_length (count_on u s) (s + 2) u) in
      let z : n - i ≡ 0 = omega arith in
      let none : lent_left u s n i ≡ [] = rw z in
      written_all d₀ d _ _ (4 * i) sum rest none (length (field_list u s)) q
