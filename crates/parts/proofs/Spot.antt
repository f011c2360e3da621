-- Where the words of an entry stand, and that its handle starts it. Assumes nothing.
use mathlib.Core.Path.{◌≡◌, refl, sym, ap, ◌∙◌}
use mathlib.Core.Bool.{true}
use mathlib.Core.Logic.{⊎_elim}
use mathlib.Core.List.Memᴰ
use mathlib.Core.List.{List, [], ◌∷◌}
use Prim.Native.Nat.{ℕ, zero, suc, pred, ◌+◌, ◌-◌, ◌*◌, ◌≤◌, ◌<◌}
use native.Mathlib.Omega.{arith}
use native.Mathlib.Nat.{add-zero}
use lib.ListN.{length, take, drop, get_or, length-drop}
use lib.Seq.{length-take-le, get_or-take, get_or-drop}
use Rattle.words.specs.Words.{size_of, fills}
use Rattle.words.specs.Table.{Row, rows, entries, RowIn}
use Rattle.words.specs.Ran.{HasSize}
use Rattle.words.proofs.Walk.{size_pos, long}
use Rattle.words.specs.Columns.{every, word}
use Rattle.call.specs.Adds.{Sound}
use Rattle.words.proofs.Handles.{rows_bound}

-- ---- words

-- a row's first word stands at its handle
past : (x w at k : ℕ) (l : List ℕ) (r : Row) → RowIn r (rows (suc at) k l) → get_or l (r.at - suc at) 0 ≡ x → get_or (w ∷ l) (r.at - at) 0 ≡ x
past x w at k l r i e = let q : r.at - at ≡ suc (r.at - suc at) = omega (arith, (rows_bound (suc at) k l r i).0) in rw q e

rows_head : (at k : ℕ) (l : List ℕ) (r : Row) → RowIn r (rows at k l) → get_or l (r.at - at) 0 ≡ get_or r.words 0 0
unfolding rows
rows_head at zero [] r m = absurd (Memᴰ.not-nil m)
rows_head at (suc k) [] r m = absurd (Memᴰ.not-nil m)
rows_head at zero (w ∷ l) r m =
    let k = pred (size_of w) in
    ⊎_elim
    (λ (e : r ≡ record { at = at; words = take (size_of w) (w ∷ l) }). let z : at - at ≡ 0 = omega arith in rw (e, z) (sym (get_or-take (size_of w) (w ∷ l) 0 0 (size_pos w))))
    (λ (i : RowIn r (rows (suc at) k l)). past (get_or r.words 0 0) w at k l r i (rows_head (suc at) k l r i))
    (Memᴰ.cases_cons m)
rows_head at (suc k) (w ∷ l) r m = past (get_or r.words 0 0) w at k l r m (rows_head (suc at) k l r m)

pub entry_head : (u : List ℕ) (r : Row) → RowIn r (entries u) → word u r.at ≡ get_or r.words 0 0
unfolding entries
entry_head u r m =
    let q : 1 + (r.at - 1) ≡ r.at = omega (arith, (rows_bound 1 0 (drop 1 u) r m).0) in
    ap (λ (i : ℕ). get_or u i 0) (sym q) ∙ sym (get_or-drop 1 u (r.at - 1) 0) ∙ rows_head 1 0 (drop 1 u) r m

-- the row r among those of the list l, which begins at position `at`
record Spot (at : ℕ) (l : List ℕ) (r : Row) : Type 0 where
  pub off : ℕ
  pub is : r.at ≡ at + off
  pub words : r.words ≡ take (length r.words) (drop off l)
  pub sized : HasSize r.words
  pub inside : off + length r.words ≤ length l

spot : (at k : ℕ) (l : List ℕ) (r : Row) → fills k l ≡ true → RowIn r (rows at k l) → Spot at l r
unfolding fills rows
spot at zero [] r f i = absurd (Memᴰ.not-nil i)
spot at (suc k) [] r f i = absurd (Memᴰ.not-nil i)
spot at zero (w ∷ l) r f i = ⊎_elim first (λ j. later (spot (suc at) (pred (size_of w)) l r f j)) (Memᴰ.cases_cons i)
  where
    first : r ≡ record { at = at; words = take (size_of w) (w ∷ l) } → Spot at (w ∷ l) r
    first q =
        let b : r.words ≡ take (size_of w) (w ∷ l) = ap (λ (x : Row). x.words) q in
        let s : size_of w ≤ suc (length l) = omega (arith, long (pred (size_of w)) l f, size_pos w) in
        let n : length r.words ≡ size_of w = ap length b ∙ length-take-le (size_of w) (w ∷ l) s in
        let o : get_or r.words 0 0 ≡ w = ap (λ (x : List ℕ). get_or x 0 0) b ∙ get_or-take (size_of w) (w ∷ l) 0 0 (size_pos w) in
        record { off = 0; is = ap (λ (x : Row). x.at) q ∙ sym (add-zero at); words = b ∙ rw n; sized = n ∙ ap size_of (sym o); inside = omega (arith, n, s) }

    later : Spot (suc at) l r → Spot at (w ∷ l) r
    later s = record { off = suc s.off; is = s.is ∙ omega arith; words = s.words; sized = s.sized; inside = omega (arith, s.inside) }
spot at (suc k) (w ∷ l) r f i =
    let s = spot (suc at) k l r f i in
    record { off = suc s.off; is = s.is ∙ omega arith; words = s.words; sized = s.sized; inside = omega (arith, s.inside) }

module _ (u : List ℕ) (s : Sound u) (r : Row) (m : RowIn r (entries u)) where
  here : Spot 1 (drop 1 u) r
  unfolding entries
  here = spot 1 0 (drop 1 u) r s.full m

  pub row_sized : HasSize r.words
  row_sized = here.sized

  pub row_long : 0 < length r.words
  row_long = omega (arith, row_sized, size_pos (get_or r.words 0 0))

  pub row_inside : r.at + length r.words ≤ length u
  row_inside = omega (arith, here.inside, here.is, length-drop 1 u, row_long)

  -- a word of the entry
  pub row_word : (i : ℕ) → i < length r.words → word u (r.at + i) ≡ get_or r.words i 0
  row_word i l =
      let n : r.at + i ≡ 1 + (here.off + i) = omega (arith, here.is) in
      ap (λ (k : ℕ). get_or u k 0) n
      ∙ sym (get_or-drop 1 u (here.off + i) 0)
      ∙ sym (get_or-drop here.off (drop 1 u) i 0)
      ∙ sym (get_or-take (length r.words) (drop here.off (drop 1 u)) i 0 l)
      ∙ ap (λ (x : List ℕ). get_or x i 0) (sym here.words)

  -- words of the entry, some apart
  pub row_every : (t n p q : ℕ) → q ≡ r.at + p → p + t * n < length r.words + t → every t n q u ≡ every t n p r.words
  unfolding every
  row_every t zero p q k l = refl
  row_every t (suc n) p q k l =
      let e : t * suc n ≡ t * n + t = omega arith in
      cc (ap (λ (x : ℕ). get_or u x 0) k ∙ row_word p (omega arith), row_every t n (p + t) (q + t) (omega arith) (omega arith))
