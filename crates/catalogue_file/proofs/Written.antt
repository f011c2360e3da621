-- The writer: bytes behind bytes. Assumes nothing.
use Rattle.std.proofs.Common.{◌≡◌, ℕ, zero, suc, ◌+◌, ◌-◌, ◌*◌, ◌/◌, ◌%◌, ◌^◌, ◌≤◌, ◌<◌, List, [], ◌∷◌, ◌++◌, length, take, drop, get_or, refl, sym, ap, ◌∙◌, append_assoc, append-nil, length-append, length-take, length-drop, arith, add-one}
use Rattle.std.specs.Int.{byte_at, bytes_low_first}
use Rattle.std.proofs.Math.Nat.{div-div-eq-div-mul}
use lib.Pow.{pow-add}
use lib.Seq.{take_at, drop-drop, take-suc, drop-append-add, drop-append-le}
use Rattle.catalogue_file.specs.File.{bytes_of, spelled, file_of}
use Rattle.catalogue_file.proofs.Spelled.{length_bytes, length_spelled, spelled_append}

-- ---- put_word

-- std's bytes of a number from byte i on are those of what is left of it behind i bytes
bytes_behind : (i k w : ℕ) → bytes_low_first i k w ≡ bytes_of k (w / 256 ^ i)
unfolding bytes_of
bytes_behind i zero w = refl
bytes_behind i (suc k) w =
    let left : w / 256 ^ i / 256 ≡ w / 256 ^ suc i = div-div-eq-div-mul w (256 ^ i) 256 ∙ ap (λ (m : ℕ). w / m) (power i) in
    rw (byte i, bytes_behind (suc i) k w, left)
  where
    power : (n : ℕ) → 256 ^ n * 256 ≡ 256 ^ suc n
    power n = let e : n + 1 ≡ suc n = omega arith in sym (pow-add 256 n 1) ∙ ap (λ (m : ℕ). 256 ^ m) e

    byte : (n : ℕ) → byte_at n w ≡ w / 256 ^ n % 256
    byte zero = omega arith
    byte (suc n) = refl

word_bytes : (w : ℕ) → bytes_low_first 0 8 w ≡ bytes_of 8 w
word_bytes w = let e : w / 256 ^ 0 ≡ w = omega arith in bytes_behind 0 8 w ∙ ap (bytes_of 8) e

-- the part of d behind `at`, once a word's bytes are copied there
pub word_put : (d b : List ℕ) (at w : ℕ) → b ≡ bytes_low_first 0 8 w → take at d ++ (b ++ drop (at + 8 - at) (drop at d)) ≡ take at d ++ (bytes_of 8 w ++ drop (at + 8) d)
word_put d b at w is =
    let n : at + (at + 8 - at) ≡ at + 8 = omega arith in
    rw (drop-drop (at + 8 - at) at d, n) (ap (λ (l : List ℕ). take at d ++ (l ++ drop (at + 8) d)) (is ∙ word_bytes w))

-- ---- write_file

-- `done` at the front of what was d₀
unfoldable pub begun : List ℕ → List ℕ → List ℕ
begun done d₀ = done ++ drop (length done) d₀

pub begun_more : (done d₀ d : List ℕ) (at w : ℕ) → at ≡ length done → at + 8 ≤ length d₀ → d ≡ begun done d₀ → (d' : List ℕ) → d' ≡ take at d ++ (bytes_of 8 w ++ drop (at + 8) d) → d' ≡ begun (done ++ bytes_of 8 w) d₀
unfolding begun
begun_more done d₀ d at w here room is d' it =
    let t : take at d ≡ done = rw is (take_at done (drop (length done) d₀) at (sym here)) in
    let q : at + 8 ≡ length done + 8 = omega arith in
    let lb : length (done ++ bytes_of 8 w) ≡ length done + 8 = length-append done (bytes_of 8 w) ∙ rw (length_bytes 8 w) in
    let r : drop (at + 8) d ≡ drop (length (done ++ bytes_of 8 w)) d₀ =
    ap (drop (at + 8)) is ∙ ap (λ (k : ℕ). drop k (done ++ drop (length done) d₀)) q ∙ drop-append-add done (drop (length done) d₀) 8 ∙ drop-drop 8 (length done) d₀ ∙ ap (λ (k : ℕ). drop k d₀) (sym lb) in
    it ∙ rw (t, r) (sym (append_assoc done (bytes_of 8 w) (drop (length (done ++ bytes_of 8 w)) d₀)))

-- the words from 94 to i
abbrev pub upto : List ℕ → ℕ → List ℕ
upto ws i = drop 94 (take i ws)

pub upto_length : (ws : List ℕ) (i : ℕ) → 94 ≤ i → i ≤ length ws → length (upto ws i) ≡ i - 94
upto_length ws i low high = omega (arith, length-drop 94 (take i ws), length-take i ws)

pub upto_none : (ws : List ℕ) → 94 ≤ length ws → upto ws 94 ≡ []
upto_none ws h = empty (upto ws 94) (omega (arith, upto_length ws 94 (omega arith) h))
  where
    empty : (a : List ℕ) → length a ≡ 0 → a ≡ []
    empty [] e = refl
    empty (x ∷ a) e = absurd (omega arith)

pub upto_more : (ws : List ℕ) (i : ℕ) → 94 ≤ i → i < length ws → upto ws (i + 1) ≡ upto ws i ++ (get_or ws i 0 ∷ [])
upto_more ws i low more =
    let h : 94 ≤ length (take i ws) = omega (arith, length-take i ws) in
    rw (add-one, take-suc ws i 0 more) (drop-append-le 94 (take i ws) (get_or ws i 0 ∷ []) h)

spell_one : (w : ℕ) → spelled (w ∷ []) ≡ bytes_of 8 w
unfolding spelled
spell_one w = append-nil (bytes_of 8 w)

-- the file so far: the label, and the words from 94 to i
abbrev pub sofar : List ℕ → List ℕ → ℕ → List ℕ
sofar label ws i = label ++ spelled (upto ws i)

pub sofar_length : (label ws : List ℕ) (i : ℕ) → 94 ≤ i → i ≤ length ws → length label + 8 * (i - 94) ≡ length (sofar label ws i)
sofar_length label ws i low high = sym (length-append label (spelled (upto ws i)) ∙ rw (length_spelled (upto ws i), upto_length ws i low high))

pub begin_file : (label ws d₀ : List ℕ) → 94 ≤ length ws → label ++ drop (length label) d₀ ≡ begun (sofar label ws 94) d₀
unfolding begun spelled
begin_file label ws d₀ h = rw (upto_none ws h, append-nil label)

pub more_words : (label ws d₀ d : List ℕ) (k w : ℕ) → 94 + k < length ws → w ≡ get_or ws (94 + k) 0 → length label + 8 * k + 8 ≤ length d₀ → d ≡ begun (sofar label ws (94 + k)) d₀
    → (d' : List ℕ) → d' ≡ take (length label + 8 * k) d ++ (bytes_of 8 w ++ drop (length label + 8 * k + 8) d) → d' ≡ begun (sofar label ws (94 + (k + 1))) d₀
more_words label ws d₀ d k w more here room is d' it =
    let i = 94 + k in
    let low : 94 ≤ i = omega arith in
    let h : i ≤ length ws = omega arith in
    let n : length label + 8 * k ≡ length (sofar label ws i) = omega (arith, sofar_length label ws i low h) in
    let j : i + 1 ≡ 94 + (k + 1) = omega arith in
    begun_more (sofar label ws i) d₀ d (length label + 8 * k) w n room is d' it
    ∙ ap (λ (l : List ℕ). begun l d₀) (append_assoc label (spelled (upto ws i)) (bytes_of 8 w) ∙ ap (λ (l : List ℕ). label ++ l) (rw (← j, upto_more ws i low more, spelled_append (upto ws i) (get_or ws i 0 ∷ []), spell_one (get_or ws i 0), ← here)))

two : (a b : ℕ) → spelled (a ∷ b ∷ []) ≡ bytes_of 8 a ++ bytes_of 8 b
unfolding spelled
two a b = ap (λ (l : List ℕ). bytes_of 8 a ++ l) (append-nil (bytes_of 8 b))

module _ (label ws d₀ : List ℕ) (used : ℕ) (low : 94 ≤ used) (high : used ≤ length ws) (room : length label + 8 * (used - 94) + 16 ≤ length d₀) where
  abbrev end : ℕ
  end = length label + 8 * (used - 94)

  pub whole_file : (sofar label ws used ++ bytes_of 8 (length label)) ++ bytes_of 8 (used - 94) ≡ file_of label (take used ws)
  unfolding file_of
  whole_file =
      rw (spelled_append (upto ws used) (length label ∷ length (upto ws used) ∷ []), upto_length ws used low high, two (length label) (used - 94))
      (append_assoc (sofar label ws used) (bytes_of 8 (length label)) (bytes_of 8 (used - 94)) ∙ append_assoc label (spelled (upto ws used)) (bytes_of 8 (length label) ++ bytes_of 8 (used - 94)))

  pub whole_length : end + 16 ≡ length (file_of label (take used ws))
  whole_length =
      ap (λ (n : ℕ). n + 16) (sofar_length label ws used low high)
      ∙ sym (ap (λ (l : List ℕ). length l) (sym whole_file) ∙ length-append (sofar label ws used ++ bytes_of 8 (length label)) (bytes_of 8 (used - 94)) ∙ rw (length-append (sofar label ws used) (bytes_of 8 (length label)), length_bytes 8 (length label), length_bytes 8 (used - 94)) (omega arith))

  module _ (d d₁ d₂ : List ℕ) (is : d ≡ begun (sofar label ws used) d₀)
      (first : d₁ ≡ take end d ++ (bytes_of 8 (length label) ++ drop (end + 8) d))
      (second : d₂ ≡ take (end + 8) d₁ ++ (bytes_of 8 (used - 94) ++ drop (end + 8 + 8) d₁)) where
    pub written : (end + 16 ≡ length (file_of label (take used ws))) × (d₂ ≡ file_of label (take used ws) ++ drop (end + 16) d₀)
    unfolding begun
    written =
        let one = begun_more (sofar label ws used) d₀ d end (length label) (sofar_length label ws used low high) (omega arith) is d₁ first in
        let n : end + 8 ≡ length (sofar label ws used ++ bytes_of 8 (length label)) = sym (length-append (sofar label ws used) (bytes_of 8 (length label)) ∙ rw (length_bytes 8 (length label), ← sofar_length label ws used low high)) in
        let both = begun_more (sofar label ws used ++ bytes_of 8 (length label)) d₀ d₁ (end + 8) (used - 94) n (omega arith) one d₂ second in
        (whole_length, both ∙ ap (λ (l : List ℕ). begun l d₀) whole_file ∙ ap (λ (k : ℕ). file_of label (take used ws) ++ drop k d₀) (sym whole_length))

-- o has the label at its front, and behind it what was d₀
pub behind_label : (label d₀ d : List ℕ) (m : ℕ) → d ≡ label ++ drop (length label) d₀ → length label ≤ m → drop m d ≡ drop m d₀
behind_label label d₀ d m is low =
    let n : length label + (m - length label) ≡ m = omega arith in
    ap (drop m) is ∙ ap (λ (k : ℕ). drop k (label ++ drop (length label) d₀)) (sym n) ∙ drop-append-add label (drop (length label) d₀) (m - length label) ∙ drop-drop (m - length label) (length label) d₀ ∙ ap (λ (k : ℕ). drop k d₀) n

-- The same, from the output as it was before the label.
pub written_file : (label ws d₀ o : List ℕ) (used : ℕ) → 94 ≤ used → used ≤ length ws → length label + 8 * (used - 94) + 16 ≤ length o → o ≡ label ++ drop (length label) d₀
    → (i : ℕ) (d d₁ d₂ : List ℕ) → used ≤ i → i ≤ used → d ≡ begun (sofar label ws i) o
    → d₁ ≡ take (length label + 8 * (used - 94)) d ++ (bytes_of 8 (length label) ++ drop (length label + 8 * (used - 94) + 8) d)
    → d₂ ≡ take (length label + 8 * (used - 94) + 8) d₁ ++ (bytes_of 8 (used - 94) ++ drop (length label + 8 * (used - 94) + 8 + 8) d₁)
    → (length label + 8 * (used - 94) + 16 ≡ length (file_of label (take used ws))) × (d₂ ≡ file_of label (take used ws) ++ drop (length label + 8 * (used - 94) + 16) d₀)
written_file label ws d₀ o used low high room put i d d₁ d₂ out within is first second =
    let e : i ≡ used = omega arith in
    let s : d ≡ begun (sofar label ws used) o = is ∙ ap (λ (k : ℕ). begun (sofar label ws k) o) e in
    let w = written label ws o used low high room d d₁ d₂ s first second in
    (w.0, w.1 ∙ ap (λ (l : List ℕ). file_of label (take used ws) ++ l) (behind_label label d₀ o (length label + 8 * (used - 94) + 16) put (omega arith)))
