-- What is written is read back, and what is read is what is written. Assumes nothing.
use mathlib.Core.Path.{◌≡◌, refl, sym, ap, ◌∙◌}
use mathlib.Core.Bool.{true}
use mathlib.Core.List.{List, [], ◌∷◌, ◌++◌, append_assoc, append-nil}
use Prim.Native.Nat.{ℕ, ◌+◌, ◌-◌, ◌*◌, ◌^◌, ◌≤◌, ◌<◌}
use native.Mathlib.Omega.{arith}
use borrow.Author.Tests.{le-leb, eq-eqb, leb-true, eqb-true}
use lib.Dec.{eqb, leb}
use lib.ListN.{length, take, drop, get_or, length-append, length-drop, take-append-drop}
use lib.Seq.{take_at, drop_at, drop-drop, get_or-drop, length-take-le, take_all}
use Rattle.source.specs.Packed.{of_bytes}
use Rattle.source.proofs.Packing.{length_packed}
use Rattle.wellformed.proofs.Bools.{and_left, and_right}
use Rattle.catalogue_file.specs.File.{bytes_of, spelled, later_words, trailer, file_of, start_in, count_in, trailed, words_in, label_in}
use Rattle.catalogue_file.proofs.Spelled.{length_bytes, eight_bytes, length_spelled, spelled_append, packed_spelled, Bytes, bytes_of_eight, behind, spelled_packed}

-- ---- a file that is written

module _ (label u : List ℕ) (short : length label ≤ 255) (fits : length (later_words u) ≤ 1048576) where
  last : List ℕ
  last = bytes_of 8 (length (later_words u)) ++ []

  both : List ℕ
  both = bytes_of 8 (length label) ++ last

  parts : file_of label u ≡ (label ++ spelled (later_words u)) ++ both
  unfolding file_of spelled last both
  parts = ap (λ (l : List ℕ). label ++ l) (spelled_append (later_words u) (length label ∷ length (later_words u) ∷ [])) ∙ sym (append_assoc label (spelled (later_words u)) _)

  front_length : length (label ++ spelled (later_words u)) ≡ length label + 8 * length (later_words u)
  front_length = length-append label (spelled (later_words u)) ∙ rw (length_spelled (later_words u))

  last_length : length last ≡ 8
  unfolding last
  last_length = length-append (bytes_of 8 (length (later_words u))) [] ∙ rw (length_bytes 8 (length (later_words u)))

  both_length : length both ≡ 16
  unfolding both
  both_length = length-append (bytes_of 8 (length label)) last ∙ rw (length_bytes 8 (length label), last_length)

  pub file_length : length (file_of label u) ≡ length label + 8 * length (later_words u) + 16
  file_length = ap (λ (l : List ℕ). length l) parts ∙ length-append (label ++ spelled (later_words u)) both ∙ rw (front_length, both_length)

  pub file_start : start_in (file_of label u) ≡ length label
  unfolding both
  file_start =
      let n : length (label ++ spelled (later_words u)) ≡ length (file_of label u) - 16 = omega (arith, file_length, front_length) in
      let d : drop (length (file_of label u) - 16) (file_of label u) ≡ both = ap (drop (length (file_of label u) - 16)) parts ∙ drop_at (label ++ spelled (later_words u)) both _ n in
      ap (λ (l : List ℕ). of_bytes (take 8 l)) d ∙ eight_bytes (length label) last (omega arith)

  pub file_count : count_in (file_of label u) ≡ length (later_words u)
  unfolding both last
  file_count =
      let front = (label ++ spelled (later_words u)) ++ bytes_of 8 (length label) in
      let e : file_of label u ≡ front ++ last = parts ∙ sym (append_assoc (label ++ spelled (later_words u)) (bytes_of 8 (length label)) last) in
      let n : length front ≡ length (file_of label u) - 8 = omega (arith, file_length, front_length, length-append (label ++ spelled (later_words u)) (bytes_of 8 (length label)), length_bytes 8 (length label)) in
      let d : drop (length (file_of label u) - 8) (file_of label u) ≡ last = ap (drop (length (file_of label u) - 8)) e ∙ drop_at front last _ n in
      ap (λ (l : List ℕ). of_bytes (take 8 l)) d ∙ eight_bytes (length (later_words u)) [] (omega arith)

  from_start : drop (length label) (file_of label u) ≡ spelled (later_words u) ++ both
  from_start =
      let e : file_of label u ≡ label ++ (spelled (later_words u) ++ both) = parts ∙ append_assoc label (spelled (later_words u)) both in
      ap (drop (length label)) e ∙ drop_at label (spelled (later_words u) ++ both) (length label) refl

  pub file_words : ((i : ℕ) → get_or u i 0 < 2 ^ 64) → words_in (file_of label u) ≡ later_words u
  file_words small = rw (file_start, file_count, from_start) (packed_spelled (later_words u) both (λ i. rw (get_or-drop 94 u i 0) (small (94 + i))))

  pub file_label : label_in (file_of label u) ≡ label
  unfolding file_of
  file_label = rw file_start (take_at label (spelled (later_words u ++ trailer label (later_words u))) (length label) refl)

  pub file_trailed : trailed (file_of label u) ≡ true
  unfolding trailed
  file_trailed =
      let l : 16 ≤ length (file_of label u) = omega (arith, file_length) in
      rw (le-leb 16 _ l, file_start, file_count) (eq-eqb _ _ (sym file_length))

-- ---- a file that is read

module _ (f : List ℕ) (fits : trailed f ≡ true) where
  pub long_enough : 16 ≤ length f
  unfolding trailed
  long_enough = leb-true 16 (length f) (and_left (leb 16 (length f)) (eqb (start_in f + 8 * count_in f + 16) (length f)) fits)

  pub whole : start_in f + 8 * count_in f + 16 ≡ length f
  unfolding trailed
  whole = eqb-true (start_in f + 8 * count_in f + 16) (length f) (and_right (leb 16 (length f)) (eqb (start_in f + 8 * count_in f + 16) (length f)) fits)

  pub label_length : length (label_in f) ≡ start_in f
  label_length = length-take-le (start_in f) f (omega (arith, whole))

  -- the file is the one that is written of its label and of words that are its words from 94 on
  pub written_so : Bytes f → (u : List ℕ) → later_words u ≡ words_in f → file_of (label_in f) u ≡ f
  unfolding file_of spelled
  written_so small u same =
      let s = start_in f in
      let k = count_in f in
      let n : length (later_words u) ≡ k = ap (λ (l : List ℕ). length l) same ∙ length_packed k (drop s f) in
      let body : spelled (later_words u) ≡ take (8 * k) (drop s f) = ap spelled same ∙ spelled_packed k (drop s f) (behind s f small) (omega (arith, length-drop s f, whole)) in
      let a : length f - 16 ≡ s + 8 * k = omega (arith, whole) in
      let b : length f - 8 ≡ s + 8 * k + 8 = omega (arith, whole) in
      let first : bytes_of 8 s ≡ take 8 (drop (s + 8 * k) f) = bytes_of_eight (drop (length f - 16) f) (behind (length f - 16) f small) (omega (arith, length-drop (length f - 16) f, long_enough)) ∙ ap (λ (m : ℕ). take 8 (drop m f)) a in
      let second : bytes_of 8 k ≡ take 8 (drop (s + 8 * k + 8) f) = bytes_of_eight (drop (length f - 8) f) (behind (length f - 8) f small) (omega (arith, length-drop (length f - 8) f, long_enough)) ∙ ap (λ (m : ℕ). take 8 (drop m f)) b in
      let last : take 8 (drop (s + 8 * k + 8) f) ≡ drop (s + 8 * k + 8) f = take_all 8 (drop (s + 8 * k + 8) f) (omega (arith, length-drop (s + 8 * k + 8) f, whole)) in
      let seam : take 8 (drop (s + 8 * k) f) ++ drop (s + 8 * k + 8) f ≡ drop (s + 8 * k) f = ap (λ (l : List ℕ). take 8 (drop (s + 8 * k) f) ++ l) (sym (drop-drop 8 (s + 8 * k) f)) ∙ take-append-drop 8 (drop (s + 8 * k) f) in
      let all : take (8 * k) (drop s f) ++ drop (s + 8 * k) f ≡ drop s f = ap (λ (l : List ℕ). take (8 * k) (drop s f) ++ l) (sym (drop-drop (8 * k) s f)) ∙ take-append-drop (8 * k) (drop s f) in
      rw (spelled_append (later_words u) (length (label_in f) ∷ length (later_words u) ∷ []), body, label_length, n, first, second, append-nil (take 8 (drop (s + 8 * k + 8) f)), last, seam, all) (take-append-drop s f)
