-- One bit more in a word, and what it does to the set. Assumes nothing.
use mathlib.Core.Path.{◌≡◌, sym, ap, fun_ext}
use mathlib.Core.Bool.{false, ◌||◌}
use mathlib.Core.List.{List}
use Prim.Native.Nat.{ℕ, ◌*◌, ◌/◌, ◌%◌, ◌^◌, ◌≤◌, ◌<◌}
use native.Mathlib.Omega.{arith}
use native.Mathlib.Nat.{zero-div}
use native.Mathlib.Decide.{ℕ_discrete, dec_lt}
use borrow.Author.Tests.{eq-eqb, ne_eqb}
use lib.Dec.{eqb}
use lib.ListN.{length, get_or, set, replicate, get_or-eq_default}
use lib.Seq.{get_or-set_same, get_or-set_other}
use lib.Bits.{bit_or}
use Rattle.std.proofs.Common.{w64}
use Rattle.std.proofs.lemmas.Nat.Bits.{bit_at_set_same, bit_at_set_other}
use Rattle.std.proofs.lemmas.List.{get_or-replicate, length-replicate}
use Rattle.bitset.specs.Bitset.{bit_at, nowhere, also}

-- bit j once bit k is set
pub set_bit : (x k j : ℕ) → k < 64 → eqb (bit_or x ((1 * 2 ^ k) % 18446744073709551616) / 2 ^ j % 2) 1 ≡ (eqb k j || eqb (x / 2 ^ j % 2) 1)
set_bit x k j low = go (ℕ_discrete k j)
  where
    go : Dec (k ≡ j) → eqb (bit_or x ((1 * 2 ^ k) % 18446744073709551616) / 2 ^ j % 2) 1 ≡ (eqb k j || eqb (x / 2 ^ j % 2) 1)
    go (yes e) = rw (eq-eqb k j e, ← e, bit_at_set_same w64 x k low)
    go (no n) = rw (ne_eqb k j n, bit_at_set_other w64 x k low j (λ q. n (sym q)))

-- the set once h is marked
module _ (bits : List ℕ) (h : ℕ) (low : h / 64 < length bits) where
  pub marks : bit_at (set bits (h / 64) (bit_or (get_or bits (h / 64) 0) ((1 * 2 ^ (h % 64)) % 18446744073709551616))) ≡ also h (bit_at bits)
  unfolding bit_at also
  marks = fun_ext (λ g. go g (ℕ_discrete (g / 64) (h / 64)))
    where
      pick : (g : ℕ) → g / 64 ≡ h / 64 → Dec (h ≡ g) → eqb (h % 64) (g % 64) ≡ eqb h g
      pick g e (yes q) = rw (eq-eqb h g q, eq-eqb (h % 64) (g % 64) (ap (λ (n : ℕ). n % 64) q))
      pick g e (no q) = rw (ne_eqb h g q, ne_eqb (h % 64) (g % 64) (λ f. q (omega arith)))

      go : (g : ℕ) → Dec (g / 64 ≡ h / 64) → eqb (get_or (set bits (h / 64) (bit_or (get_or bits (h / 64) 0) ((1 * 2 ^ (h % 64)) % 18446744073709551616))) (g / 64) 0 / 2 ^ (g % 64) % 2) 1 ≡ (eqb h g || eqb (get_or bits (g / 64) 0 / 2 ^ (g % 64) % 2) 1)
      go g (yes e) =
          let r : h % 64 < 64 = omega arith in
          rw (e, get_or-set_same bits (h / 64) (bit_or (get_or bits (h / 64) 0) ((1 * 2 ^ (h % 64)) % 18446744073709551616)) 0 low, set_bit (get_or bits (h / 64) 0) (h % 64) (g % 64) r, pick g e (ℕ_discrete h g))
      go g (no n) = rw (get_or-set_other bits (h / 64) (g / 64) (bit_or (get_or bits (h / 64) 0) ((1 * 2 ^ (h % 64)) % 18446744073709551616)) 0 n, ne_eqb h g (λ q. n (ap (λ (x : ℕ). x / 64) (sym q))))

-- no bit is set
pub none : (bits : List ℕ) → ((i : ℕ) → get_or bits i 0 ≡ 0) → bit_at bits ≡ nowhere
unfolding bit_at nowhere
none bits z = fun_ext (λ g. rw (z (g / 64), zero-div (2 ^ (g % 64))))

-- the same where all words are 0
pub filled : (bits : List ℕ) (n : ℕ) → bits ≡ replicate {A = ℕ} n 0 → bit_at bits ≡ nowhere
filled bits n e = none bits (λ i. rw e (go i (dec_lt i n)))
  where
    go : (i : ℕ) → Dec (i < n) → get_or (replicate {A = ℕ} n 0) i 0 ≡ 0
    go i (yes l) = get_or-replicate n i 0 0 l
    go i (no l) = let o : length (replicate {A = ℕ} n 0) ≤ i = omega (arith, length-replicate {A = ℕ} n 0) in get_or-eq_default (replicate {A = ℕ} n 0) 0 o

-- past the words nothing is in the set
pub past_bits : (bits : List ℕ) (h : ℕ) → length bits ≤ h / 64 → false ≡ bit_at bits h
unfolding bit_at
past_bits bits h out = rw (get_or-eq_default bits 0 out, zero-div)
