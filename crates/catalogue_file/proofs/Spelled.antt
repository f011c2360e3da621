-- Words as bytes, and bytes as words. Assumes nothing.
use mathlib.Core.Path.{◌≡◌, refl, sym, ap, ◌∙◌}
use mathlib.Core.List.{List, [], ◌∷◌, ◌++◌, append_assoc}
use Prim.Native.Nat.{ℕ, zero, suc, ◌+◌, ◌*◌, ◌/◌, ◌%◌, ◌^◌, ◌≤◌, ◌<◌}
use native.Mathlib.Omega.{arith}
use native.Mathlib.Decide.{dec_lt}
use lib.ListN.{length, take, drop, get_or, length-append, length-take, length-drop, get_or-eq_default}
use lib.Pow.{pow-add}
use lib.Seq.{take_at, take-add, drop_at, get_or-take, get_or-drop}
use Rattle.source.specs.Packed.{of_bytes, packed}
use Rattle.catalogue_file.specs.File.{bytes_of, spelled}

-- ---- a word in eight bytes

pub length_bytes : (k w : ℕ) → length (bytes_of k w) ≡ k
unfolding bytes_of
length_bytes zero w = refl
length_bytes (suc k) w = ap suc (length_bytes k (w / 256))

deeper : (w k b : ℕ) → w < 256 * b → w / 256 < b
deeper w k b h = omega arith

pub of_bytes_is : (k w : ℕ) → w < 256 ^ k → of_bytes (bytes_of k w) ≡ w
unfolding of_bytes bytes_of
of_bytes_is zero w h = omega arith
of_bytes_is (suc k) w h =
    let e : of_bytes (bytes_of k (w / 256)) ≡ w / 256 = of_bytes_is k (w / 256) (deeper w k (256 ^ k) (shift h)) in
    rw e (omega arith)
  where
    shift : w < 256 ^ suc k → w < 256 * 256 ^ k
    shift q = let n : suc k ≡ 1 + k = omega arith in let e : 256 ^ suc k ≡ 256 * 256 ^ k = ap (λ (m : ℕ). 256 ^ m) n ∙ pow-add 256 1 k in omega arith

pub eight_bytes : (w : ℕ) (rest : List ℕ) → w < 2 ^ 64 → of_bytes (take 8 (bytes_of 8 w ++ rest)) ≡ w
eight_bytes w rest h = ap of_bytes (take_at (bytes_of 8 w) rest 8 (length_bytes 8 w)) ∙ of_bytes_is 8 w h

-- ---- words in bytes

pub length_spelled : (ws : List ℕ) → length (spelled ws) ≡ 8 * length ws
unfolding spelled
length_spelled [] = refl
length_spelled (w ∷ ws) = length-append (bytes_of 8 w) (spelled ws) ∙ rw (length_bytes 8 w, length_spelled ws) (omega arith)

pub spelled_append : (a b : List ℕ) → spelled (a ++ b) ≡ spelled a ++ spelled b
unfolding spelled
spelled_append [] b = refl
spelled_append (w ∷ a) b = ap (λ (l : List ℕ). bytes_of 8 w ++ l) (spelled_append a b) ∙ sym (append_assoc (bytes_of 8 w) (spelled a) (spelled b))

-- whatever follows them
pub packed_spelled : (ws rest : List ℕ) → ((i : ℕ) → get_or ws i 0 < 2 ^ 64) → packed (length ws) (spelled ws ++ rest) ≡ ws
unfolding packed spelled
packed_spelled [] rest small = refl
packed_spelled (w ∷ ws) rest small =
    let e : (bytes_of 8 w ++ spelled ws) ++ rest ≡ bytes_of 8 w ++ (spelled ws ++ rest) = append_assoc (bytes_of 8 w) (spelled ws) rest in
    rw (e, eight_bytes w (spelled ws ++ rest) (small 0), drop_at (bytes_of 8 w) (spelled ws ++ rest) 8 (length_bytes 8 w), packed_spelled ws rest (λ i. small (suc i)))

-- ---- and back

-- a list of bytes
abbrev pub Bytes : List ℕ → Type 0
Bytes bs = (i : ℕ) → get_or bs i 0 < 256

pub bytes_of_is : (bs : List ℕ) → Bytes bs → bytes_of (length bs) (of_bytes bs) ≡ bs
unfolding bytes_of of_bytes
bytes_of_is [] small = refl
bytes_of_is (b ∷ bs) small =
    let s : b < 256 = small 0 in
    let low : (b + 256 * of_bytes bs) % 256 ≡ b = omega arith in
    let high : (b + 256 * of_bytes bs) / 256 ≡ of_bytes bs = omega arith in
    rw (low, high) (ap (λ (l : List ℕ). b ∷ l) (bytes_of_is bs (λ i. small (suc i))))

-- eight of them, from a list that has them
pub bytes_of_eight : (bs : List ℕ) → Bytes bs → 8 ≤ length bs → bytes_of 8 (of_bytes (take 8 bs)) ≡ take 8 bs
bytes_of_eight bs small some =
    let n : length (take 8 bs) ≡ 8 = omega (arith, length-take 8 bs) in
    ap (λ (k : ℕ). bytes_of k (of_bytes (take 8 bs))) (sym n) ∙ bytes_of_is (take 8 bs) (λ i. first i)
  where
    first : (i : ℕ) → get_or (take 8 bs) i 0 < 256
    first i = go (dec_lt i 8)
      where
        go : Dec (i < 8) → get_or (take 8 bs) i 0 < 256
        go (yes h) = rw (get_or-take 8 bs i 0 h) (small i)
        go (no h) =
            let k : length (take 8 bs) ≤ i = omega (arith, length-take 8 bs) in
            rw (get_or-eq_default (take 8 bs) 0 k) (omega arith)

pub behind : (n : ℕ) (bs : List ℕ) → Bytes bs → Bytes (drop n bs)
behind n bs small i = rw (get_or-drop n bs i 0) (small (n + i))

pub spelled_packed : (k : ℕ) (bs : List ℕ) → Bytes bs → 8 * k ≤ length bs → spelled (packed k bs) ≡ take (8 * k) bs
unfolding spelled packed
spelled_packed zero bs small some = refl
spelled_packed (suc k) bs small some =
    let h : 8 ≤ length bs = omega arith in
    let m : 8 * k ≤ length (drop 8 bs) = omega (arith, length-drop 8 bs) in
    let n : 8 + 8 * k ≡ 8 * suc k = omega arith in
    rw (bytes_of_eight bs small h, spelled_packed k (drop 8 bs) (behind 8 bs small) m) (sym (take-add 8 (8 * k) bs) ∙ ap (λ (j : ℕ). take j bs) n)
