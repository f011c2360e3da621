-- The parts of a lent memory, and what lending one of them leaves of the others. Assumes nothing.
use mathlib.Core.Path.{◌≡◌, refl, sym, ap, ◌∙◌}
use mathlib.Core.Bool.{Bool, true, false}
use mathlib.Core.List.{List, ◌++◌}
use Prim.Native.Nat.{ℕ, suc, ◌+◌, ◌-◌, ◌*◌, ◌/◌, ◌≤◌, ◌<◌}
use native.Mathlib.Nat.{mul-le-mul_right}
use native.Mathlib.Omega.{arith}
use borrow.Author.Tests.{ltb-true, ltb-false}
use borrow.Rule.Slice.PartMut.{put_mid, same_len_mid, mid_len, drop_put}
use lib.Dec.{ltb}
use lib.ListN.{length, take, drop, length-append, length-drop, take-append-drop}
use lib.Seq.{length-take-le, take-append-le, drop-append-le, drop-append-add, drop-drop, take_at, drop_at}
use Rattle.lent_memory.specs.Memory.{part}

-- some words of the front
front : (n p : ℕ) (l m : List ℕ) → p + n ≤ length l → take n (drop p (l ++ m)) ≡ take n (drop p l)
front n p l m h = ap (take n) (drop-append-le p l m (omega arith)) ∙ take-append-le n (drop p l) m (omega (arith, length-drop p l))

-- words d are put in the place of those from s to e
module _ (memory d : List ℕ) (s e : ℕ) (from : s ≤ e) (inside : e ≤ length memory) (long : length d ≡ length (take (e - s) (drop s memory))) where
  abbrev after : List ℕ
  after = put_mid s (e - s) memory d

  put_words : length d ≡ e - s
  put_words = long ∙ mid_len s e memory inside

  pub put_long : length after ≡ length memory
  put_long = same_len_mid s (e - s) memory d long

  pub put_at : take (e - s) (drop s after) ≡ d
  put_at =
      let post = drop (e - s) (drop s memory) in
      let q : drop s after ≡ d ++ post = drop_at (take s memory) (d ++ post) s (length-take-le s memory (omega arith)) in
      ap (take (e - s)) q ∙ take_at d post (e - s) put_words

  -- the words before are what they were
  pub put_before : (n p : ℕ) → p + n ≤ s → take n (drop p after) ≡ take n (drop p memory)
  put_before n p h =
      let k : length (take s memory) ≡ s = length-take-le s memory (omega arith) in
      let a = front n p (take s memory) (d ++ drop (e - s) (drop s memory)) (omega arith) in
      let b = front n p (take s memory) (drop s memory) (omega arith) in
      a ∙ sym b ∙ ap (λ (l : List ℕ). take n (drop p l)) (take-append-drop s memory)

  -- and so are those behind
  pub put_behind : (n p : ℕ) → e ≤ p → take n (drop p after) ≡ take n (drop p memory)
  put_behind n p h =
      let k : e + (p - e) ≡ p = omega arith in
      let a : drop p after ≡ drop (p - e) (drop e after) = sym (drop-drop (p - e) e after ∙ ap (λ (m : ℕ). drop m after) k) in
      let b : drop p memory ≡ drop (p - e) (drop e memory) = sym (drop-drop (p - e) e memory ∙ ap (λ (m : ℕ). drop m memory) k) in
      ap (take n) (a ∙ ap (drop (p - e)) (drop_put s e memory d from inside put_words) ∙ sym b)

-- part i is d, and the others are what they were
pub record Put (i : ℕ) (memory d memory' : List ℕ) : Type 0 where
  pub same : part i memory' ≡ d
  pub other : (j : ℕ) → (j ≡ i → ⊥) → part j memory' ≡ part j memory

-- part i is lent as the words from s to e
module _ (i : ℕ) (few : i < 6) (memory : List ℕ) (s e : ℕ) (is : s ≡ i * (length memory / 6)) (to : e ≡ s + length memory / 6) where
  pub lent : take (e - s) (drop s memory) ≡ part i memory
  unfolding part
  lent =
      let k : e - s ≡ length memory / 6 = omega arith in
      rw (k, is)

  end : e ≤ length memory
  end =
      let m : suc i * (length memory / 6) ≤ 6 * (length memory / 6) = mul-le-mul_right (length memory / 6) few in
      omega arith

  module _ (d : List ℕ) (long : length d ≡ length (take (e - s) (drop s memory))) where
    put_same : part i (put_mid s (e - s) memory d) ≡ d
    unfolding part
    put_same =
        let k : e - s ≡ length memory / 6 = omega arith in
        rw (put_long memory d s e (omega arith) end long, ← is, ← k) (put_at memory d s e (omega arith) end long)

    put_other : (j : ℕ) → (j ≡ i → ⊥) → part j (put_mid s (e - s) memory d) ≡ part j memory
    unfolding part
    put_other j ne = go (ltb j i) refl
      where
        n : ℕ
        n = length memory / 6

        go : (t : Bool) → ltb j i ≡ t → part j (put_mid s (e - s) memory d) ≡ part j memory
        go true q =
            let l : suc j * n ≤ i * n = mul-le-mul_right n (ltb-true j i q) in
            rw (put_long memory d s e (omega arith) end long) (put_before memory d s e (omega arith) end long n (j * n) (omega arith))
        go false q =
            let h : suc i ≤ j = omega (arith, ltb-false j i q) in
            let l : suc i * n ≤ j * n = mul-le-mul_right n h in
            rw (put_long memory d s e (omega arith) end long) (put_behind memory d s e (omega arith) end long n (j * n) (omega arith))

    pub put : Put i memory d (put_mid s (e - s) memory d)
    put = record { same = put_same; other = put_other }

-- ---- parts 0 and 1 are lent together, as the front

-- they are the halves of d, and the others are what they were
pub record Front (memory d memory' : List ℕ) : Type 0 where
  pub first : part 0 memory' ≡ take (length d / 2) d
  pub second : part 1 memory' ≡ take (length d / 2) (drop (length d / 2) d)
  pub other : (j : ℕ) → 2 ≤ j → part j memory' ≡ part j memory

module _ (memory : List ℕ) where
  abbrev n : ℕ
  n = length memory / 6

  two : length (take (2 * n) memory) ≡ 2 * n
  two = length-take-le (2 * n) memory (omega arith)

  pub front_long : 2 * n ≡ length (take (2 * n) memory)
  front_long = sym two

  -- words of the front are those of the memory
  within : (p : ℕ) → p + n ≤ 2 * n → take n (drop p (take (2 * n) memory)) ≡ take n (drop p memory)
  within p h =
      let a = front n p (take (2 * n) memory) (drop (2 * n) memory) (omega (arith, two)) in
      sym a ∙ ap (λ (l : List ℕ). take n (drop p l)) (take-append-drop (2 * n) memory)

  pub lent_first : take (length (take (2 * n) memory) / 2) (take (2 * n) memory) ≡ part 0 memory
  unfolding part
  lent_first =
      let k : length (take (2 * n) memory) / 2 ≡ n = omega (arith, two) in
      let start : 0 * n ≡ 0 = omega arith in
      rw (k, start) (within 0 (omega arith))

  pub lent_second : take (length (take (2 * n) memory) / 2) (drop (length (take (2 * n) memory) / 2) (take (2 * n) memory)) ≡ part 1 memory
  unfolding part
  lent_second =
      let k : length (take (2 * n) memory) / 2 ≡ n = omega (arith, two) in
      let one : 1 * n ≡ n = omega arith in
      rw (k, one) (within n (omega arith))

  module _ (d : List ℕ) (long : length d ≡ length (take (2 * n) memory)) where
    abbrev memory' : List ℕ
    memory' = d ++ drop (2 * n) memory

    d_long : length d ≡ 2 * n
    d_long = long ∙ two

    same_long : length memory' ≡ length memory
    same_long = omega (arith, d_long, length-append d (drop (2 * n) memory), length-drop (2 * n) memory)

    pub put_front : Front memory d memory'
    unfolding part
    put_front =
        let k : length d / 2 ≡ n = omega (arith, d_long) in
        let start : 0 * n ≡ 0 = omega arith in
        let one : 1 * n ≡ n = omega arith in
        record {
          first = rw (same_long, k, start) (front n 0 d (drop (2 * n) memory) (omega (arith, d_long)));
          second = rw (same_long, k, one) (front n n d (drop (2 * n) memory) (omega (arith, d_long)));
          other = λ j h.
              let l : 2 * n ≤ j * n = mul-le-mul_right n h in
              let m = j * n - 2 * n in
              let e : length d + m ≡ j * n = omega (arith, d_long) in
              let f : 2 * n + m ≡ j * n = omega arith in
              let a : drop (j * n) memory' ≡ drop m (drop (2 * n) memory) = sym (ap (λ (p : ℕ). drop p memory') e) ∙ drop-append-add d (drop (2 * n) memory) m in
              rw same_long (ap (take n) (a ∙ drop-drop m (2 * n) memory ∙ ap (λ (p : ℕ). drop p memory) f));
        }
