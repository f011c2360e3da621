-- The number that some bytes are: a byte more, and how large it is. Assumes nothing.
use mathlib.Core.Path.{◌≡◌, refl, ap, ◌∙◌}
use mathlib.Core.List.{List, [], ◌∷◌}
use Prim.Native.Nat.{ℕ, zero, suc, ◌+◌, ◌*◌, ◌^◌, ◌≤◌, ◌<◌}
use native.Mathlib.Omega.{arith}
use lib.ListN.{length, take, drop, get_or}
use lib.Seq.{take_all}
use lib.Pow.{pow-add}
use Rattle.source.specs.Packed.{of_bytes}

none : (k : ℕ) → of_bytes (take k []) ≡ 0
unfolding of_bytes
none k = let h : length {A = ℕ} [] ≤ k = omega arith in rw (take_all k [] h)

-- the lowest byte and the others; past the end of the text both are 0
pub step : (t : List ℕ) (k i : ℕ) → of_bytes (take (suc k) (drop i t)) ≡ get_or t i 0 + 256 * of_bytes (take k (drop (suc i) t))
unfolding of_bytes
step [] k zero = rw (none k)
step [] k (suc i) = rw (none k)
step (b ∷ t) k zero = refl
step (b ∷ t) k (suc i) = step t k i

-- a byte more is eight bits more
pub wider : (w b k : ℕ) → w < 2 ^ (8 * k) → b < 256 → b + 256 * w < 2 ^ (8 * suc k)
wider w b k h small =
    let n : 8 * suc k ≡ 8 + 8 * k = omega arith in
    let q : 2 ^ (8 * suc k) ≡ 256 * 2 ^ (8 * k) = ap (λ (m : ℕ). 2 ^ m) n ∙ pow-add 2 8 (8 * k) in
    omega arith

-- the first four bytes and the others
lead : (t : List ℕ) (k i : ℕ) → of_bytes (take (suc (suc (suc (suc k)))) (drop i t)) ≡ get_or t i 0 + 256 * get_or t (suc i) 0 + 65536 * get_or t (suc (suc i)) 0 + 16777216 * get_or t (suc (suc (suc i))) 0 + 4294967296 * of_bytes (take k (drop (suc (suc (suc (suc i)))) t))
lead t k i = omega (arith, step t (suc (suc (suc k))) i, step t (suc (suc k)) (suc i), step t (suc k) (suc (suc i)), step t k (suc (suc (suc i))))

module _ (t : List ℕ) (at : ℕ) where
  pub four_bytes : (a b c d : ℕ) → a ≡ get_or t at 0 → b ≡ get_or t (at + 1) 0 → c ≡ get_or t (at + 2) 0 → d ≡ get_or t (at + 3) 0 → a + 256 * b + 65536 * (c + 256 * d) ≡ of_bytes (take 4 (drop at t))
  unfolding of_bytes
  four_bytes a b c d pa pb pc pd =
      let same : (m n : ℕ) → m ≡ n → get_or t m 0 ≡ get_or t n 0 = λ m n e. ap (λ (i : ℕ). get_or t i 0) e in
      let qb : get_or t (at + 1) 0 ≡ get_or t (suc at) 0 = same _ _ (omega arith) in
      let qc : get_or t (at + 2) 0 ≡ get_or t (suc (suc at)) 0 = same _ _ (omega arith) in
      let qd : get_or t (at + 3) 0 ≡ get_or t (suc (suc (suc at))) 0 = same _ _ (omega arith) in
      let z : of_bytes (take 0 (drop (suc (suc (suc (suc at)))) t)) ≡ 0 = refl in
      omega (arith, lead t 0 at)

  pub eight_bytes : (x y : ℕ) → x ≡ of_bytes (take 4 (drop at t)) → y ≡ of_bytes (take 4 (drop (at + 4) t)) → x + 4294967296 * y ≡ of_bytes (take 8 (drop at t))
  unfolding of_bytes
  eight_bytes x y px py =
      let z : of_bytes (take 0 (drop (suc (suc (suc (suc at)))) t)) ≡ 0 = refl in
      let e : at + 4 ≡ suc (suc (suc (suc at))) = omega arith in
      let q : of_bytes (take 4 (drop (at + 4) t)) ≡ of_bytes (take 4 (drop (suc (suc (suc (suc at)))) t)) = ap (λ (i : ℕ). of_bytes (take 4 (drop i t))) e in
      omega (arith, lead t 0 at, lead t 4 at)

-- the bytes of a list are below 256, so its number is below the power for its length
pub number_below : (bs : List ℕ) → ((i : ℕ) → get_or bs i 0 < 256) → of_bytes bs < 2 ^ (8 * length bs)
unfolding of_bytes
number_below [] small = omega arith
number_below (b ∷ bs) small = wider (of_bytes bs) b (length bs) (number_below bs (λ i. small (suc i))) (small 0)
