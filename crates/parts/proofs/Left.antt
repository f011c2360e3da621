-- Words that stand s apart, of which a loop has gone through i: those that are left. Assumes nothing.
use mathlib.Core.Path.{◌≡◌}
use mathlib.Core.List.{List, ◌∷◌}
use Prim.Native.Nat.{ℕ, zero, suc, ◌+◌, ◌-◌, ◌*◌, ◌<◌}
use native.Mathlib.Omega.{arith}
use native.Mathlib.Nat.{sub-zero}
use Rattle.words.specs.Columns.{every, word}
use Rattle.parts.specs.Parts.{All}

pub every_zero : (s n p : ℕ) (u : List ℕ) → every s (n - 0) (p + s * 0) u ≡ every s n p u
every_zero s n p u = let e : p + s * 0 ≡ p = omega arith in rw (sub-zero n, e)

pub every_next : (s n p i : ℕ) (u : List ℕ) → i < n → every s (n - i) (p + s * i) u ≡ word u (p + s * i) ∷ every s (n - (i + 1)) (p + s * (i + 1)) u
unfolding every
every_next s n p i u h =
    let a : n - i ≡ suc (n - (i + 1)) = omega arith in
    let b : p + s * i + s ≡ p + s * (i + 1) = omega arith in
    rw (a, b)

-- what holds of each holds of the i-th
pub every_at : (P : ℕ → Type 0) (s n p : ℕ) (u : List ℕ) → All P (every s n p u) → (i : ℕ) → i < n → P (word u (p + s * i))
unfolding every
every_at P s zero p u a i h = absurd (omega arith)
every_at P s (suc n) p u a zero h = let e : p + s * 0 ≡ p = omega arith in rw e a.0
every_at P s (suc n) p u a (suc i) h = let e : p + s * suc i ≡ p + s + s * i = omega arith in rw e (every_at P s n (p + s) u a.1 i (omega arith))
