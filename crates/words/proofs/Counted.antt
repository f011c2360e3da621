-- The number of entries that a search does not pass over, counted on the way: `not_passed_over` says it of the whole table, `looked` from row to row, and on the rows of words both are the same. Assumes nothing.
use mathlib.Core.Path.{◌≡◌, refl}
use mathlib.Core.Bool.{Bool, true, false, cond}
use mathlib.Core.List.Memᴰ
use mathlib.Core.List.{List, [], ◌∷◌, ◌++◌}
use Prim.Native.Nat.{ℕ, zero, suc, pred, ◌+◌, ◌≤◌, ◌<◌}
use native.Mathlib.Omega.{arith}
use borrow.Author.Tests.{le-leb, lt-leb}
use lib.ListN.{length, take}
use lib.Dec.{eqb}
use Rattle.words.specs.Words.{size_of, eqs}
use Rattle.words.specs.Columns.{word}
use Rattle.words.specs.Table.{Row, rows, first_of, RowIn}
use Rattle.words.specs.Search.{up_to, headed, not_passed_over, Searched}
use Rattle.std.specs.Prelude.{Option, Some, None}
use Rattle.words.proofs.Handles.{rows_bound}
use Rattle.words.proofs.Grow.{found_in}

-- a row counts where it has the head, and those behind it where it is not the one looked for
unfoldable pub looked : List Row → List ℕ → ℕ
looked [] e = 0
looked (r ∷ rs) e = cond (eqb (word r.words 0) (word e 0)) 1 0 + cond (eqs r.words e) 0 (looked rs e)

-- no row counts that stands behind the one found
none_behind : (h head : ℕ) (rs : List Row) → ((q : Row) → RowIn q rs → h < q.at) → headed (Some h) head rs ≡ 0
unfolding headed
none_behind h head [] above = refl
none_behind h head (r ∷ rs) above =
    rw (lt-leb r.at h (above r (Memᴰ.head refl)), none_behind h head rs (λ (q : Row) m. above q (Memᴰ.tail m)))

module _ (r : Row) (rs : List Row) (e : List ℕ) (above : (q : Row) → RowIn q rs → r.at < q.at) where
  -- a row stands before what is found behind it
  before_found : up_to (first_of rs e) r ≡ true
  before_found = go (first_of rs e) refl
    where
      go : (f : Option ℕ) → first_of rs e ≡ f → up_to f r ≡ true
      go (Some h) q = le-leb r.at h (omega (arith, above (record { at = h; words = e }) (found_in rs e h q)))
      go None q = refl

  row_counted : not_passed_over rs e ≡ looked rs e → not_passed_over (r ∷ rs) e ≡ looked (r ∷ rs) e
  unfolding not_passed_over headed looked first_of
  row_counted ih = go (eqs r.words e)
    where
      go : (t : Bool) → headed (cond t (Some r.at) (first_of rs e)) (word e 0) (r ∷ rs) ≡ cond (eqb (word r.words 0) (word e 0)) 1 0 + cond t 0 (looked rs e)
      go true = rw (le-leb r.at r.at (omega arith), none_behind r.at (word e 0) rs above)
      go false = rw (before_found, ih)

pub counted : (at k : ℕ) (l : List ℕ) (e : List ℕ) → not_passed_over (rows at k l) e ≡ looked (rows at k l) e
unfolding rows not_passed_over headed looked first_of
counted at zero [] e = refl
counted at (suc k) [] e = refl
counted at zero (w ∷ l) e =
    row_counted (record { at = at; words = take (size_of w) (w ∷ l) }) (rows (suc at) (pred (size_of w)) l) e (λ (q : Row) m. (rows_bound (suc at) (pred (size_of w)) l q m).0) (counted (suc at) (pred (size_of w)) l e)
counted at (suc k) (w ∷ l) e = counted (suc at) k l e

-- no more entries than words
looked_few : (at k : ℕ) (l : List ℕ) (e : List ℕ) → looked (rows at k l) e ≤ length l
unfolding rows looked
looked_few at zero [] e = omega arith
looked_few at (suc k) [] e = omega arith
looked_few at zero (w ∷ l) e = go (eqb (word (take (size_of w) (w ∷ l)) 0) (word e 0)) (eqs (take (size_of w) (w ∷ l)) e) (looked_few (suc at) (pred (size_of w)) l e)
  where
    go : (t s : Bool) → looked (rows (suc at) (pred (size_of w)) l) e ≤ length l → cond t 1 0 + cond s 0 (looked (rows (suc at) (pred (size_of w)) l) e) ≤ suc (length l)
    go true true ih = omega arith
    go true false ih = omega arith
    go false true ih = omega arith
    go false false ih = omega arith
looked_few at (suc k) (w ∷ l) e = omega (arith, looked_few (suc at) k l e)

pub searched_few : (at k : ℕ) (l : List ℕ) (e : List ℕ) (f : Option ℕ) (n : ℕ) → Searched (rows at k l) e f n → n ≤ length l
searched_few at k l e f n s = omega (arith, s.number, counted at k l e, looked_few at k l e)

-- in two tables after one another: those of the second count where nothing is found in the first
unfoldable pub when_none : Option ℕ → ℕ → ℕ
when_none (Some h) n = 0
when_none None n = n

pub looked_append : (rs ss : List Row) (e : List ℕ) → looked (rs ++ ss) e ≡ looked rs e + when_none (first_of rs e) (looked ss e)
unfolding looked first_of when_none
looked_append [] ss e = omega arith
looked_append (r ∷ rs) ss e = go (eqs r.words e) (looked_append rs ss e)
  where
    go : (t : Bool) → looked (rs ++ ss) e ≡ looked rs e + when_none (first_of rs e) (looked ss e)
        → cond (eqb (word r.words 0) (word e 0)) 1 0 + cond t 0 (looked (rs ++ ss) e) ≡ (cond (eqb (word r.words 0) (word e 0)) 1 0 + cond t 0 (looked rs e)) + when_none (cond t (Some r.at) (first_of rs e)) (looked ss e)
    go true ih = omega arith
    go false ih = omega (arith, ih)
