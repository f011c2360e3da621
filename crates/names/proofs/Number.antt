-- A name's word, which is made byte by byte, from the last of eight on. Assumes nothing.
use Rattle.std.proofs.Common.{◌≡◌, ℕ, suc, ◌+◌, ◌-◌, ◌*◌, ◌^◌, ◌≤◌, ◌<◌, List, get_or, take, drop, ap, arith}
use lib.Pow.{pow_mono}
use Rattle.source.specs.Packed.{of_bytes}
use Rattle.source.proofs.Number.{step, wider}

-- w is the number of the last k of the eight bytes from `at` on
pub record Last (t : List ℕ) (at k w : ℕ) : Type 0 where
  pub small : w < 2 ^ (8 * k)
  pub is : w ≡ of_bytes (take k (drop (at + (8 - k)) t))

pub last_none : (t : List ℕ) (at : ℕ) → Last t at 0 0
unfolding of_bytes
last_none t at = record { small = omega arith; is = omega arith }

module _ (t : List ℕ) (at k w : ℕ) (l : Last t at k w) where
  -- while a byte of eight is still to come, the word has room for it
  pub last_room : k < 8 → w < 2 ^ 56
  last_room more = let h : 8 * k ≤ 56 = omega arith in omega (arith, l.small, pow_mono h)

  pub last_more : (b : ℕ) → k < 8 → b < 256 → b ≡ get_or t (at + 7 - k) 0 → Last t at (k + 1) (b + 256 * w)
  last_more b more small it =
      let j = at + (8 - (k + 1)) in
      let n : suc k ≡ k + 1 = omega arith in
      let p : at + 7 - k ≡ j = omega arith in
      let q : suc j ≡ at + (8 - k) = omega arith in
      let here : get_or t (at + 7 - k) 0 ≡ get_or t j 0 = ap (λ (i : ℕ). get_or t i 0) p in
      let all : of_bytes (take (suc k) (drop j t)) ≡ of_bytes (take (k + 1) (drop j t)) = ap (λ (m : ℕ). of_bytes (take m (drop j t))) n in
      let rest : of_bytes (take k (drop (suc j) t)) ≡ of_bytes (take k (drop (at + (8 - k)) t)) = ap (λ (i : ℕ). of_bytes (take k (drop i t))) q in
      record { small = rw n at (wider w b k l.small small); is = omega (arith, step t k j, l.is) }

  pub last_all : k ≡ 8 → w ≡ of_bytes (take 8 (drop at t))
  last_all end = let z : at + (8 - 8) ≡ at = omega arith in rw (end, z) at l.is
