-- Rows from the newest on: their handles fall; the search in them is the search in the table. Assumes nothing.
use mathlib.Core.Path.{◌≡◌, refl, sym, ap, ◌∙◌}
use mathlib.Core.Bool.{Bool, true, false, cond}
use mathlib.Core.Logic.{◌⊎◌, ⊎_elim, inl, inr}
use mathlib.Core.List.Memᴰ
use mathlib.Core.List.{List, [], ◌∷◌, ◌++◌}
use Prim.Native.Nat.{ℕ, zero, suc, pred, ◌+◌, ◌≤◌, ◌<◌}
use native.Mathlib.Omega.{arith}
use lib.ListN.{length, take, drop, length-drop}
use Rattle.words.specs.Words.{size_of, eqs}
use Rattle.words.specs.Table.{Row, rows, entries, first_of, RowIn}
use Rattle.std.specs.Prelude.{Option, Some, None}
use Rattle.words.proofs.Grow.{or_else}
use Rattle.index.specs.Chains.{newest_first}

-- ---- handles that fall, all below k

pub data Falling : ℕ → List Row → Type 0 where
  none : {k : ℕ} → Falling k []
  more : {k : ℕ} {r : Row} {rs : List Row} → 0 < r.at → r.at < k → Falling r.at rs → Falling k (r ∷ rs)

pub fall_below : {k m : ℕ} {rs : List Row} → Falling k rs → k ≤ m → Falling m rs
fall_below none l = none
fall_below {m = m} (more z h f) l = more {k = m} z (omega arith) f

rows_fall : (p k : ℕ) (l : List ℕ) (past : List Row) → 0 < p → Falling p past → Falling (p + length l) (newest_first past (rows p k l))
unfolding rows newest_first
rows_fall p zero [] past z f = fall_below f (omega arith)
rows_fall p (suc k) [] past z f = fall_below f (omega arith)
rows_fall p zero (w ∷ l) past z f =
    fall_below (rows_fall (suc p) (pred (size_of w)) l (record { at = p; words = take (size_of w) (w ∷ l) } ∷ past) (omega arith) (more z (omega arith) f)) (omega arith)
rows_fall p (suc k) (w ∷ l) past z f = fall_below (rows_fall (suc p) k l past (omega arith) (fall_below f (omega arith))) (omega arith)

pub entries_fall : (u : List ℕ) → 1 ≤ length u → Falling (length u) (newest_first [] (entries u))
unfolding entries
entries_fall u low = fall_below (rows_fall 1 0 (drop 1 u) [] (omega arith) none) (omega (arith, length-drop 1 u))

-- ---- the order

pub first_snoc : (past rs : List Row) (r : Row) → newest_first past (rs ++ (r ∷ [])) ≡ r ∷ newest_first past rs
unfolding newest_first
first_snoc past [] r = refl
first_snoc past (q ∷ rs) r = first_snoc (q ∷ past) rs r

pub in_either : (past rs : List Row) (r : Row) → RowIn r (newest_first past rs) → RowIn r past ⊎ RowIn r rs
unfolding newest_first
in_either past [] r m = inl m
in_either past (q ∷ rs) r m =
    ⊎_elim
    (λ (a : RowIn r (q ∷ past)). ⊎_elim (λ (e : r ≡ q). inr (Memᴰ.head e)) (λ (b : RowIn r past). inl b) (Memᴰ.cases_cons a))
    (λ (b : RowIn r rs). inr (Memᴰ.tail b))
    (in_either (q ∷ past) rs r m)

pub in_rows : (rs : List Row) (r : Row) → RowIn r (newest_first [] rs) → RowIn r rs
in_rows rs r m = ⊎_elim (λ (a : RowIn r []). absurd (Memᴰ.not-nil a)) (λ (b : RowIn r rs). b) (in_either [] rs r m)

-- ---- the search

abbrev pub one : Bool → ℕ → Option ℕ
one t h = cond t (Some h) None

-- the oldest row with these words
unfoldable pub lowest : List Row → List ℕ → Option ℕ
lowest [] e = None
lowest (r ∷ rs) e = or_else (lowest rs e) (one (eqs r.words e) r.at)

pub or_none : (f : Option ℕ) → or_else f None ≡ f
unfolding or_else
or_none (Some h) = refl
or_none None = refl

pub or_assoc : (f g k : Option ℕ) → or_else (or_else f g) k ≡ or_else f (or_else g k)
unfolding or_else
or_assoc (Some h) g k = refl
or_assoc None g k = refl

one_or : (t : Bool) (h : ℕ) (f : Option ℕ) → or_else (one t h) f ≡ cond t (Some h) f
unfolding or_else
one_or true h f = refl
one_or false h f = refl

pub lowest_first : (past rs : List Row) (e : List ℕ) → lowest (newest_first past rs) e ≡ or_else (lowest past e) (first_of rs e)
unfolding newest_first lowest first_of
lowest_first past [] e = sym (or_none (lowest past e))
lowest_first past (r ∷ rs) e =
    lowest_first (r ∷ past) rs e ∙ or_assoc (lowest past e) (one (eqs r.words e) r.at) (first_of rs e) ∙ ap (or_else (lowest past e)) (one_or (eqs r.words e) r.at (first_of rs e))

pub lowest_all : (rs : List Row) (e : List ℕ) → lowest (newest_first [] rs) e ≡ first_of rs e
unfolding lowest or_else
lowest_all rs e = lowest_first [] rs e
