-- `Own` as a test, and from "none is like one before it". Assumes nothing.
use Rattle.std.proofs.Common.{◌≡◌, ℕ, zero, suc, pred, ◌<◌, Bool, true, false, List, [], ◌∷◌, take, sym, refl, ap, ◌∙◌, ⊎_elim, arith, eq-eqb, eqb-true}
use mathlib.Core.List.Memᴰ
use Rattle.words.specs.Words.{size_of, eqs}
use Rattle.words.specs.Table.{Row, rows, first_of, RowIn, Own}
use Rattle.std.specs.Prelude.{Option, Some, None}
use Rattle.words.proofs.Alike.{eqs_refl, eqs_eq}
use Rattle.words.proofs.Handles.{rows_bound}
use Rattle.distinct.specs.Distinct.{found_at, each_own, own}
use Rattle.wellformed.proofs.Bools.{and_left, and_right}

-- where none is like one before it, each is the first
pub apart_own : (at k : ℕ) (l : List ℕ) → ((r : Row) → RowIn r (rows at k l) → (q : Row) → RowIn q (rows at k l) → q.at < r.at → eqs q.words r.words ≡ false) → Own (rows at k l)
unfolding rows first_of
apart_own at zero [] h r m = absurd (Memᴰ.not-nil m)
apart_own at (suc k) [] h r m = absurd (Memᴰ.not-nil m)
apart_own at zero (w ∷ l) h r m =
    let first : Row = record { at = at; words = take (size_of w) (w ∷ l) } in
    ⊎_elim
    (λ (e : r ≡ first). rw (e, eqs_refl (take (size_of w) (w ∷ l))))
    (λ (i : RowIn r (rows (suc at) (pred (size_of w)) l)).
    let b = (rows_bound (suc at) (pred (size_of w)) l r i).0 in
    let d : at < r.at = omega arith in
    let n : eqs (take (size_of w) (w ∷ l)) r.words ≡ false = h r (Memᴰ.tail i) first (Memᴰ.head refl) d in
    rw n (apart_own (suc at) (pred (size_of w)) l (λ x j q k. h x (Memᴰ.tail j) q (Memᴰ.tail k)) r i))
    (Memᴰ.cases_cons m)
apart_own at (suc k) (w ∷ l) h r m = apart_own (suc at) k l h r m

-- ---- the test

at_inj : (a b : ℕ) → Some a ≡ Some b → a ≡ b
at_inj a b e = cc

found_at_is : (f : Option ℕ) (a : ℕ) → found_at f a ≡ true → f ≡ Some a
found_at_is (Some h) a e = ap Some (eqb-true h a e)
found_at_is None a e = let z : ◌≡◌ {A = ℕ} 0 1 = cc in absurd (omega arith)

each : (rs t : List Row) → each_own rs t ≡ true → (r : Row) → RowIn r t → first_of rs r.words ≡ Some r.at
unfolding each_own
each rs [] h r m = absurd (Memᴰ.not-nil m)
each rs (x ∷ t) h r m =
    let a = found_at (first_of rs x.words) x.at in
    ⊎_elim
    (λ (e : r ≡ x). rw e (found_at_is (first_of rs x.words) x.at (and_left a (each_own rs t) h)))
    (λ (i : RowIn r t). each rs t (and_right a (each_own rs t) h) r i)
    (Memᴰ.cases_cons m)

each_back : (rs t : List Row) → ((r : Row) → RowIn r t → first_of rs r.words ≡ Some r.at) → each_own rs t ≡ true
unfolding each_own
each_back rs [] h = refl
each_back rs (x ∷ t) h = rw (h x (Memᴰ.head refl), eq-eqb x.at x.at refl, each_back rs t (λ r m. h r (Memᴰ.tail m)))

-- two equal entries are one
pub own_once : (rs : List Row) → Own rs → (q r : Row) → RowIn q rs → RowIn r rs → eqs q.words r.words ≡ true → q.at ≡ r.at
own_once rs h q r i j e =
    let w : q.words ≡ r.words = eqs_eq q.words r.words e in
    at_inj q.at r.at (sym (h q i) ∙ ap (first_of rs) w ∙ h r j)

pub own_is : (rs : List Row) → own rs ≡ true → Own rs
unfolding own
own_is rs h r m = each rs rs h r m

pub is_own_is : (rs : List Row) → Own rs → own rs ≡ true
unfolding own
is_own_is rs h = each_back rs rs h

pub not_own : (rs : List Row) (q r : Row) → RowIn q rs → RowIn r rs → (q.at ≡ r.at → ⊥) → eqs q.words r.words ≡ true → own rs ≡ false
not_own rs q r i j ne e = go (own rs) refl
  where
    go : (t : Bool) → own rs ≡ t → t ≡ false
    go true h = absurd (ne (own_once rs (own_is rs h) q r i j e))
    go false h = refl
