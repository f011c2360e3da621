-- Rows and their handles: a handle starts a row, and stands among the words that the rows fill. Assumes nothing.
use mathlib.Core.Path.{◌≡◌, refl, ap}
use mathlib.Core.Bool.{Bool, true, false, ◌||◌}
use mathlib.Core.Logic.{⊎_elim}
use mathlib.Core.List.Memᴰ
use mathlib.Core.List.{List, [], ◌∷◌, ◌++◌}
use Prim.Native.Nat.{ℕ, zero, suc, pred, ◌+◌, ◌≤◌, ◌<◌}
use native.Mathlib.Omega.{arith}
use borrow.Author.Tests.{eq-eqb, eqb-true}
use lib.ListN.{length, take}
use lib.Dec.{eqb}
use Rattle.words.specs.Words.{size_of}
use Rattle.words.specs.Table.{Row, rows, is_at, RowIn}

-- where rows stand
pub rows_bound : (at k : ℕ) (l : List ℕ) (r : Row) → RowIn r (rows at k l) → (at ≤ r.at) × (r.at < at + length l)
unfolding rows
rows_bound at zero [] r m = absurd (Memᴰ.not-nil m)
rows_bound at (suc k) [] r m = absurd (Memᴰ.not-nil m)
rows_bound at zero (w ∷ l) r m =
    ⊎_elim
    (λ (e : r ≡ record { at = at; words = take (size_of w) (w ∷ l) }). let q : r.at ≡ at = ap (λ (x : Row). x.at) e in (omega arith, omega arith))
    (λ (i : RowIn r (rows (suc at) (pred (size_of w)) l)). let b = rows_bound (suc at) (pred (size_of w)) l r i in (omega (arith, b.0), omega (arith, b.1)))
    (Memᴰ.cases_cons m)
rows_bound at (suc k) (w ∷ l) r m = let b = rows_bound (suc at) k l r m in (omega (arith, b.0), omega (arith, b.1))

-- a handle that starts an entry is a row's
pub at_row : (rs : List Row) (h : ℕ) → is_at rs h ≡ true → (r : Row) × (RowIn r rs) × (r.at ≡ h)
unfolding is_at
at_row [] h e = let z : ◌≡◌ {A = ℕ} 0 1 = cc in absurd (omega arith)
at_row (r ∷ rs) h e = go (eqb r.at h) refl e (at_row rs h)
  where
    go : (t : Bool) → eqb r.at h ≡ t → (t || is_at rs h) ≡ true → (is_at rs h ≡ true → (q : Row) × (RowIn q rs) × (q.at ≡ h)) → (q : Row) × (RowIn q (r ∷ rs)) × (q.at ≡ h)
    go true q f ih = (r, Memᴰ.head refl, eqb-true r.at h q)
    go false q f ih = let i = ih f in (i.0, Memᴰ.tail i.1, i.2)

pub at_more : (rs ss : List Row) (h : ℕ) → is_at rs h ≡ true → is_at (rs ++ ss) h ≡ true
unfolding is_at
at_more [] ss h a = let z : ◌≡◌ {A = ℕ} 0 1 = cc in absurd (omega arith)
at_more (r ∷ rs) ss h a = go (eqb r.at h) a (at_more rs ss h)
  where
    go : (t : Bool) → (t || is_at rs h) ≡ true → (is_at rs h ≡ true → is_at (rs ++ ss) h ≡ true) → (t || is_at (rs ++ ss) h) ≡ true
    go true q ih = refl
    go false q ih = ih q

pub row_starts : (rs : List Row) (r : Row) → RowIn r rs → is_at rs r.at ≡ true
unfolding is_at
row_starts [] r m = absurd (Memᴰ.not-nil m)
row_starts (q ∷ rs) r m = ⊎_elim (λ (e : r ≡ q). rw (e, eq-eqb q.at q.at refl)) (λ (i : RowIn r rs). go (eqb q.at r.at) (row_starts rs r i)) (Memᴰ.cases_cons m)
  where
    go : (t : Bool) → is_at rs r.at ≡ true → (t || is_at rs r.at) ≡ true
    go true e = refl
    go false e = e
