-- A store that grows: what appending an entry does to the words, the table and the search. Assumes nothing.
use mathlib.Core.Path.{◌≡◌, refl, sym, ap, ◌∙◌}
use mathlib.Core.Bool.{Bool, true, false, cond}
use mathlib.Core.Logic.{⊎_elim}
use mathlib.Core.List.Memᴰ
use mathlib.Core.List.{List, [], ◌∷◌, ◌++◌}
use Prim.Native.Nat.{ℕ, zero, suc, pred, ◌+◌, ◌≤◌}
use native.Mathlib.Omega.{arith}
use native.Mathlib.Nat.{add-zero}
use lib.ListN.{length, take}
use lib.Seq.{take-append-le, take-length}
use Rattle.words.specs.Words.{size_of, eqs, fills}
use Rattle.words.specs.Table.{Row, rows, first_of, RowIn, Own}
use Rattle.words.specs.Ran.{HasSize}
use Rattle.std.specs.Prelude.{Option, Some, None}
use Rattle.words.proofs.Walk.{size_pos, long}
use Rattle.words.proofs.Alike.{eqs_refl, eqs_eq}

-- entries after entries
pub fills_append : (k : ℕ) (a b : List ℕ) → fills k a ≡ true → fills k (a ++ b) ≡ fills 0 b
unfolding fills
fills_append zero [] b f = refl
fills_append (suc k) [] b f = let z : ◌≡◌ {A = ℕ} 0 1 = cc in absurd (omega arith)
fills_append zero (w ∷ a) b f = fills_append (pred (size_of w)) a b f
fills_append (suc k) (w ∷ a) b f = fills_append k a b f

pub rows_append : (at k : ℕ) (a b : List ℕ) → fills k a ≡ true → rows at k (a ++ b) ≡ rows at k a ++ rows (at + length a) 0 b
unfolding fills rows
rows_append at zero [] b f = rw add-zero
rows_append at (suc k) [] b f = let z : ◌≡◌ {A = ℕ} 0 1 = cc in absurd (omega arith)
rows_append at zero (w ∷ a) b f =
    let h : size_of w ≤ length (w ∷ a) = omega (arith, long (pred (size_of w)) a f, size_pos w) in
    let n : suc at + length a ≡ at + suc (length a) = omega arith in
    cc (take-append-le (size_of w) (w ∷ a) b h, rows_append (suc at) (pred (size_of w)) a b f, n)
rows_append at (suc k) (w ∷ a) b f =
    let n : suc at + length a ≡ at + suc (length a) = omega arith in
    cc (rows_append (suc at) k a b f, n)

-- one entry
past_all : (at k : ℕ) (a : List ℕ) → length a ≡ k → (fills k a ≡ true) × (rows at k a ≡ [])
unfolding fills rows
past_all at zero [] h = (refl, refl)
past_all at (suc k) [] h = absurd (omega arith)
past_all at zero (w ∷ a) h = absurd (omega arith)
past_all at (suc k) (w ∷ a) h = past_all (suc at) k a (omega arith)

pub one_fills : (e : List ℕ) → HasSize e → fills 0 e ≡ true
unfolding fills
one_fills [] s = refl
one_fills (w ∷ e) s = (past_all 0 (pred (size_of w)) e (omega arith)).0

pub one_row : (at : ℕ) (e : List ℕ) → HasSize e → rows at 0 e ≡ record { at = at; words = e } ∷ []
unfolding rows
one_row at [] s = absurd (omega (arith, size_pos 0))
one_row at (w ∷ e) s =
    cc (ap (λ (n : ℕ). take n (w ∷ e)) (sym s) ∙ take-length (w ∷ e), (past_all (suc at) (pred (size_of w)) e (omega arith)).1)

-- the search: in two tables after one another
unfoldable pub or_else : Option ℕ → Option ℕ → Option ℕ
or_else (Some h) f = Some h
or_else None f = f

pub first_append : (rs ss : List Row) (e : List ℕ) → first_of (rs ++ ss) e ≡ or_else (first_of rs e) (first_of ss e)
unfolding first_of or_else
first_append [] ss e = refl
first_append (r ∷ rs) ss e = go (eqs r.words e) (first_append rs ss e)
  where
    go : (t : Bool) → first_of (rs ++ ss) e ≡ or_else (first_of rs e) (first_of ss e) → cond t (Some r.at) (first_of (rs ++ ss) e) ≡ or_else (cond t (Some r.at) (first_of rs e)) (first_of ss e)
    go true ih = refl
    go false ih = ih

-- what is found has the words looked for
pub found_in : (rs : List Row) (e : List ℕ) (h : ℕ) → first_of rs e ≡ Some h → RowIn (record { at = h; words = e }) rs
unfolding first_of
found_in [] e h f = let z : ◌≡◌ {A = ℕ} 0 1 = cc in absurd (omega arith)
found_in (r ∷ rs) e h f = go (eqs r.words e) refl f (found_in rs e h)
  where
    go : (t : Bool) → eqs r.words e ≡ t → cond t (Some r.at) (first_of rs e) ≡ Some h → (first_of rs e ≡ Some h → RowIn (record { at = h; words = e }) rs) → RowIn (record { at = h; words = e }) (r ∷ rs)
    go true q g ih =
        let a : r.at ≡ h = cc in
        let w : r.words ≡ e = eqs_eq r.words e q in
        Memᴰ.head (λ i. record { at = sym a i; words = sym w i })
    go false q g ih = Memᴰ.tail (ih g)

-- no two entries are equal, and none equals the new one: then no two are equal after it
pub own_snoc : (rs : List Row) (at : ℕ) (e : List ℕ) → Own rs → first_of rs e ≡ None → Own (rs ++ (record { at = at; words = e } ∷ []))
unfolding or_else first_of
own_snoc rs at e own none r m = ⊎_elim old new (Memᴰ.append_cases rs m)
  where
    last : List Row
    last = record { at = at; words = e } ∷ []

    old : RowIn r rs → first_of (rs ++ last) r.words ≡ Some r.at
    old i = first_append rs last r.words ∙ rw (own r i)

    new : RowIn r last → first_of (rs ++ last) r.words ≡ Some r.at
    new i =
        let q : r ≡ record { at = at; words = e } = Memᴰ.eq_of_singleton i in
        let w : r.words ≡ e = ap (λ (x : Row). x.words) q in
        let a : r.at ≡ at = ap (λ (x : Row). x.at) q in
        first_append rs last r.words ∙ rw (w, a, none, eqs_refl e)
