-- The bytes of words: taken out of them, they are packed into the same words again. Assumes nothing.
use mathlib.Core.Path.{◌≡◌, refl, ap, ◌∙◌}
use mathlib.Core.Bool.{Bool, true, false}
use mathlib.Core.List.{List, [], ◌∷◌, ◌++◌, append-nil}
use Prim.Native.Nat.{ℕ, zero, suc, ◌+◌, ◌-◌, ◌*◌, ◌/◌, ◌%◌, ◌^◌, ◌≤◌, ◌<◌, min}
use native.Mathlib.Omega.{arith}
use borrow.Author.Tests.{lt-ltb, ltb-true, ltb-false}
use lib.Dec.{ltb}
use lib.ListN.{length, get_or, length-append}
use lib.Seq.{take_all, take_at, drop_at}
use lib.Pow.{pow-add}
use Rattle.wellformed.specs.Entry.{all}
use Rattle.wellformed.proofs.Bools.{and_both}
use Rattle.source.specs.Packed.{of_bytes, packed}

-- k bytes of a word, lowest first
pub bytes_in : ℕ → ℕ → List ℕ
bytes_in zero w = []
bytes_in (suc k) w = w % 256 ∷ bytes_in k (w / 256)

pub bytes_long : (k w : ℕ) → length (bytes_in k w) ≡ k
unfolding bytes_in
bytes_long zero w = refl
bytes_long (suc k) w = ap suc (bytes_long k (w / 256))

-- a word that k bytes hold is the number of its k bytes
pub bytes_back : (k w : ℕ) → w < 2 ^ (8 * k) → of_bytes (bytes_in k w) ≡ w
unfolding bytes_in of_bytes
bytes_back zero w small = omega arith
bytes_back (suc k) w small =
    let n : 8 * suc k ≡ 8 + 8 * k = omega arith in
    let q : 2 ^ (8 * suc k) ≡ 256 * 2 ^ (8 * k) = ap (λ (m : ℕ). 2 ^ m) n ∙ pow-add 2 8 (8 * k) in
    let less : w / 256 < 2 ^ (8 * k) = omega arith in
    omega (arith, bytes_back k (w / 256) less)

-- each is a byte, and so are those of a list behind them
pub bytes_bytes : (k w : ℕ) (l : List ℕ) → all (λ b. ltb b 256) l ≡ true → all (λ b. ltb b 256) (bytes_in k w ++ l) ≡ true
unfolding bytes_in all
bytes_bytes zero w l a = a
bytes_bytes (suc k) w l a =
    let low : w % 256 < 256 = omega arith in
    and_both (ltb (w % 256) 256) (all (λ b. ltb b 256) (bytes_in k (w / 256) ++ l)) (lt-ltb (w % 256) 256 low) (bytes_bytes k (w / 256) l a)

-- n bytes of words, eight a word
pub unpacked : ℕ → List ℕ → List ℕ
unpacked n [] = []
unpacked n (w ∷ ws) = bytes_in (min 8 n) w ++ unpacked (n - 8) ws

pub unpacked_bytes : (n : ℕ) (ws : List ℕ) → all (λ b. ltb b 256) (unpacked n ws) ≡ true
unfolding unpacked all
unpacked_bytes n [] = refl
unpacked_bytes n (w ∷ ws) = bytes_bytes (min 8 n) w (unpacked (n - 8) ws) (unpacked_bytes (n - 8) ws)

-- as many words as n bytes take give n bytes
pub unpacked_long : (n : ℕ) (ws : List ℕ) → length ws ≡ (n + 7) / 8 → length (unpacked n ws) ≡ n
unfolding unpacked
unpacked_long n [] h = omega arith
unpacked_long n (w ∷ ws) h =
    let m : length ws ≡ (n - 8 + 7) / 8 = omega arith in
    omega (arith, length-append (bytes_in (min 8 n) w) (unpacked (n - 8) ws), bytes_long (min 8 n) w, unpacked_long (n - 8) ws m)

-- one full word, and the words behind it
full : (k w : ℕ) (l ws : List ℕ) → w < 2 ^ 64 → packed k l ≡ ws → packed (suc k) (bytes_in 8 w ++ l) ≡ w ∷ ws
unfolding packed
full k w l ws small on =
    let n = bytes_long 8 w in
    rw (take_at (bytes_in 8 w) l 8 n, drop_at (bytes_in 8 w) l 8 n, bytes_back 8 w small, on)

-- the last word, which is not full: no word stands behind it
part : (n w : ℕ) (ws : List ℕ) → n < 8 → suc (length ws) ≡ (n + 7) / 8 → ((n % 8 ≡ 0 → ⊥) → get_or (w ∷ ws) (length ws) 0 < 2 ^ (8 * (n % 8)))
    → packed (suc (length ws)) (bytes_in (min 8 n) w ++ unpacked (n - 8) ws) ≡ w ∷ ws
unfolding packed unpacked
part n w [] less h last =
    let m : min 8 n ≡ n = omega arith in
    let r : n % 8 ≡ n = omega arith in
    let some : (n % 8 ≡ 0 → ⊥) = λ z. absurd (omega arith) in
    let low : w < 2 ^ (8 * n) = rw r at (last some) in
    let l : length (bytes_in n w) ≤ 8 = omega (arith, bytes_long n w) in
    rw (m, append-nil (bytes_in n w), take_all 8 (bytes_in n w) l, bytes_back n w low)
part n w (y ∷ ws) less h last = absurd (omega arith)

-- The words are those of the bytes: each is a 64-bit word, and the last has nothing above the bytes that are left over, if there are any. x is any word before them, so that the last word of x and
-- the words is named where there is none too.
pub packed_back : (n x : ℕ) (ws : List ℕ) → length ws ≡ (n + 7) / 8 → ((i : ℕ) → get_or ws i 0 < 2 ^ 64) → ((n % 8 ≡ 0 → ⊥) → get_or (x ∷ ws) (length ws) 0 < 2 ^ (8 * (n % 8)))
    → packed (length ws) (unpacked n ws) ≡ ws
unfolding unpacked packed
packed_back n x [] h small last = refl
packed_back n x (w ∷ ws) h small last = go (ltb n 8) refl (packed_back (n - 8) w ws)
  where
    go : (t : Bool) → ltb n 8 ≡ t
        → (length ws ≡ (n - 8 + 7) / 8 → ((i : ℕ) → get_or ws i 0 < 2 ^ 64) → (((n - 8) % 8 ≡ 0 → ⊥) → get_or (w ∷ ws) (length ws) 0 < 2 ^ (8 * ((n - 8) % 8))) → packed (length ws) (unpacked (n - 8) ws) ≡ ws)
        → packed (suc (length ws)) (bytes_in (min 8 n) w ++ unpacked (n - 8) ws) ≡ w ∷ ws
    go true q ih = part n w ws (ltb-true n 8 q) h last
    go false q ih =
        let most : 8 ≤ n = ltb-false n 8 q in
        let m : min 8 n ≡ 8 = omega arith in
        let r : (n - 8) % 8 ≡ n % 8 = omega arith in
        rw m (full (length ws) w (unpacked (n - 8) ws) ws (small 0) (ih (omega arith) (λ i. small (suc i)) (λ some. rw r (last (λ z. some (r ∙ z))))))
