-- A word of two sources. Assumes nothing.
use mathlib.Core.Path.{◌≡◌, sym, ap, ◌∙◌}
use mathlib.Core.List.{List, ◌++◌, append-nil}
use Prim.Native.Nat.{ℕ, ◌+◌, ◌-◌, ◌*◌, ◌/◌, ◌<◌, ◌≤◌}
use native.Mathlib.Omega.{arith}
use lib.ListN.{length, take, drop, get_or, set, length-append, get_or-append, length-take, length-drop}
use lib.Seq.{get_or-append-add, get_or-take, get_or-drop}
use Rattle.words.proofs.Copy.{front, front_more, front_all}
use Rattle.source.specs.Packed.{of_bytes, packed}
use Rattle.source.proofs.Packing.{length_packed, packed_word}
use Rattle.source.specs.Source.{unpacked, stored}

pub length_stored : (ws bs : List ℕ) → length (stored ws bs) ≡ length ws + length bs / 8
unfolding stored
length_stored ws bs = length-append ws (unpacked bs) ∙ ap (λ (n : ℕ). length ws + n) (length_packed (length bs / 8) bs)

-- a plain store has an empty tail
pub stored_none : (ws bs : List ℕ) → length bs ≡ 0 → stored ws bs ≡ ws
unfolding stored packed
stored_none ws bs z = let e : length bs / 8 ≡ 0 = omega arith in rw e (append-nil ws)

module _ (ws bs : List ℕ) (p : ℕ) where
  pub in_words : p < length ws → get_or ws p 0 ≡ get_or (stored ws bs) p 0
  unfolding stored
  in_words h = sym (get_or-append ws (unpacked bs) 0 p h)

  module _ (here : p < length (stored ws bs)) (past : length ws ≤ p) where
    pub byte_room : 8 * (p - length ws) + 8 ≤ length bs
    byte_room = omega (arith, length_stored ws bs)

    pub in_bytes : (r : ℕ) → r ≡ of_bytes (take 8 (drop (8 * (p - length ws)) bs)) → r ≡ get_or (stored ws bs) p 0
    unfolding stored
    in_bytes r is =
        let e : length ws + (p - length ws) ≡ p = omega arith in
        let h : p - length ws < length bs / 8 = omega (arith, length_stored ws bs) in
        is ∙ sym (packed_word (length bs / 8) (p - length ws) bs h) ∙ sym (get_or-append-add ws (unpacked bs) (p - length ws) 0) ∙ ap (λ (k : ℕ). get_or (ws ++ unpacked bs) k 0) e

-- the loop of `gather`
module _ (ws : List ℕ) (at n : ℕ) (room : at + n ≤ length ws) where
  pub length_part : length (take n (drop at ws)) ≡ n
  length_part = omega (arith, length-take n (drop at ws), length-drop at ws)

  pub gather_more : (d₀ d : List ℕ) (i w : ℕ) → d ≡ front (take n (drop at ws)) i d₀ → i < n → n ≤ length d₀ → w ≡ get_or ws (at + i) 0 → set d i w ≡ front (take n (drop at ws)) (i + 1) d₀
  gather_more d₀ d i w is more fits it =
      let g : w ≡ get_or (take n (drop at ws)) i 0 = it ∙ sym (get_or-take n (drop at ws) i 0 more ∙ get_or-drop at ws i 0) in
      ap (λ (x : ℕ). set d i x) g ∙ front_more (take n (drop at ws)) d₀ d i is (omega (arith, length_part)) (omega (arith, length_part))

  pub gather_all : (d₀ d : List ℕ) (i : ℕ) → d ≡ front (take n (drop at ws)) i d₀ → i ≤ n → n ≤ i → d ≡ take n (drop at ws) ++ drop n d₀
  gather_all d₀ d i is low out = front_all (take n (drop at ws)) d₀ d i is (omega (arith, length_part)) (omega (arith, length_part)) ∙ ap (λ (k : ℕ). take n (drop at ws) ++ drop k d₀) length_part
