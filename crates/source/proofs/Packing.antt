-- The words that bytes hold. Assumes nothing.
use mathlib.Core.Path.{◌≡◌, refl, ap, ◌∙◌}
use mathlib.Core.List.{List}
use Prim.Native.Nat.{ℕ, zero, suc, ◌+◌, ◌*◌, ◌<◌}
use native.Mathlib.Omega.{arith}
use lib.ListN.{length, take, drop, get_or}
use lib.Seq.{drop-drop, take-take}
use Rattle.std.proofs.lemmas.List.{drop-take}
use Rattle.source.specs.Packed.{of_bytes, packed}

pub length_packed : (k : ℕ) (bs : List ℕ) → length (packed k bs) ≡ k
unfolding packed
length_packed zero bs = refl
length_packed (suc k) bs = ap suc (length_packed k (drop 8 bs))

-- word i has the bytes from 8 × i on
pub packed_word : (k i : ℕ) (bs : List ℕ) → i < k → get_or (packed k bs) i 0 ≡ of_bytes (take 8 (drop (8 * i) bs))
unfolding packed
packed_word zero i bs h = absurd (omega arith)
packed_word (suc k) zero bs h = refl
packed_word (suc k) (suc i) bs h =
    let n : 8 + 8 * i ≡ 8 * suc i = omega arith in
    packed_word k i (drop 8 bs) (omega arith) ∙ ap (λ (l : List ℕ). of_bytes (take 8 l)) (drop-drop (8 * i) 8 bs ∙ ap (λ (m : ℕ). drop m bs) n)

-- k words are those of the first 8 × k bytes
pub packed_first : (k : ℕ) (bs : List ℕ) → packed k (take (8 * k) bs) ≡ packed k bs
unfolding packed
packed_first zero bs = refl
packed_first (suc k) bs =
    let n : 8 * suc k ≡ 8 + 8 * k = omega arith in
    let h : take 8 (take (8 * suc k) bs) ≡ take 8 bs = take-take 8 (8 * suc k) bs (omega arith) in
    let d : drop 8 (take (8 * suc k) bs) ≡ take (8 * k) (drop 8 bs) = ap (λ (m : ℕ). drop 8 (take m bs)) n ∙ drop-take 8 (8 * k) bs in
    rw (h, d, packed_first k (drop 8 bs))
