-- Row 1 for a store whose words behind the fresh ones are bytes. Assumes nothing.
use mathlib.Core.Path.{◌≡◌, refl, sym, ap, ◌∙◌}
use mathlib.Core.Bool.{Bool, true, false}
use mathlib.Core.List.{List, [], ◌∷◌, ◌++◌, append-nil}
use Prim.Native.Nat.{ℕ, ◌+◌, ◌/◌, ◌≤◌, ◌<◌}
use native.Mathlib.Omega.{arith}
use borrow.Author.Tests.{le-leb, lt-leb}
use lib.ListN.{length, take, drop, get_or, length-append, drop_of_length-le}
use lib.Seq.{take-append_seam}
use Rattle.words.specs.Words.{eqs}
use Rattle.source.specs.Source.{unpacked, stored}
use Rattle.source.proofs.Packing.{length_packed}
use Rattle.wellformed.specs.Fresh.{fresh_words}
use Rattle.wellformed.specs.Form.{all_zero, ok_entries, well_formed, behind_fresh}
use Rattle.wellformed.specs.Scan.{Scanned, Verified}

pub fresh_length_is : length fresh_words ≡ 93
unfolding fresh_words
fresh_length_is = refl

fresh_same : eqs fresh_words fresh_words ≡ true
unfolding fresh_words eqs
fresh_same = refl

-- ---- the store behind whose fresh words ks stand

module _ (ks : List ℕ) where
  pub behind_length : length (behind_fresh ks) ≡ 94 + length ks
  unfolding behind_fresh
  behind_length = omega (arith, length-append fresh_words ks, fresh_length_is)

  behind_first : eqs (take 93 (drop 1 (behind_fresh ks))) fresh_words ≡ true
  unfolding behind_fresh
  behind_first = ap (λ (n : ℕ). eqs (take n (fresh_words ++ ks)) fresh_words) (sym fresh_length_is) ∙ rw (take-append_seam fresh_words ks) fresh_same

  pub behind_used : get_or (behind_fresh ks) 0 0 ≡ 94 + length ks
  unfolding behind_fresh
  behind_used = refl

  module _ (few : length ks ≤ 1048482) where
    pub behind_right : well_formed (behind_fresh ks) ≡ ok_entries (behind_fresh ks) (94 + length ks)
    unfolding well_formed all_zero
    behind_right =
        let l : 94 ≤ length (behind_fresh ks) = omega (arith, behind_length) in
        let m : length (behind_fresh ks) ≤ 1048576 = omega (arith, behind_length) in
        let a : 94 ≤ 94 + length ks = omega arith in
        let b : 94 + length ks ≤ length (behind_fresh ks) = omega (arith, behind_length) in
        let d : length (behind_fresh ks) ≤ 94 + length ks = omega (arith, behind_length) in
        rw (le-leb 94 _ l, le-leb _ 1048576 m, behind_first, behind_used, le-leb 94 _ a, le-leb _ _ b, drop_of_length-le (behind_fresh ks) d)

-- ---- the same where ks are bytes

module _ (bs : List ℕ) where
  pub tail_length : length (behind_fresh (unpacked bs)) ≡ 94 + length bs / 8
  tail_length = omega (arith, behind_length (unpacked bs), length_packed (length bs / 8) bs)

  pub no_store : (bits : List ℕ) → 1048482 < length bs / 8 → Verified (behind_fresh (unpacked bs)) bits false
  unfolding well_formed
  no_store bits h =
      let l : 94 ≤ length (behind_fresh (unpacked bs)) = omega (arith, tail_length) in
      let m : 1048576 < length (behind_fresh (unpacked bs)) = omega (arith, tail_length) in
      record { is = rw (le-leb 94 _ l, lt-leb _ 1048576 m); marks = λ x. let z : ◌≡◌ {A = ℕ} 0 1 = cc in absurd (omega arith) }

  module _ (few : length bs / 8 ≤ 1048482) (f d : List ℕ) (is : f ≡ ((94 + length bs / 8) ∷ fresh_words) ++ d) (none : length d ≡ 0) where
    pub first_stored : stored f bs ≡ behind_fresh (unpacked bs)
    unfolding stored behind_fresh
    first_stored =
        let e : length (unpacked bs) ≡ length bs / 8 = length_packed (length bs / 8) bs in
        rw (e, is ∙ ap (λ (x : List ℕ). ((94 + length bs / 8) ∷ fresh_words) ++ x) (empty d none) ∙ append-nil ((94 + length bs / 8) ∷ fresh_words))
      where
        empty : (a : List ℕ) → length a ≡ 0 → a ≡ []
        empty [] h = refl
        empty (x ∷ a) h = absurd (omega arith)

    pub tail_right : (bits : List ℕ) (r : Bool) → Scanned (stored f bs) (94 + length bs / 8) bits r → Verified (behind_fresh (unpacked bs)) bits r
    tail_right bits r s =
        let n : length (unpacked bs) ≡ length bs / 8 = length_packed (length bs / 8) bs in
        let e : Scanned (behind_fresh (unpacked bs)) (94 + length bs / 8) bits r = rw first_stored at s in
        let k : length (unpacked bs) ≤ 1048482 = omega arith in
        let o : ok_entries (behind_fresh (unpacked bs)) (94 + length bs / 8) ≡ ok_entries (behind_fresh (unpacked bs)) (94 + length (unpacked bs)) = ap (λ (m : ℕ). ok_entries (behind_fresh (unpacked bs)) (94 + m)) (sym n) in
        record { is = e.is ∙ o ∙ sym (behind_right (unpacked bs) k); marks = λ t. e.marks t ∙ rw (behind_used (unpacked bs), n) }
