-- Where the words of an entry stand: in the used words, and in one of the two segments. Assumes nothing.
use mathlib.Core.Path.{◌≡◌, sym, ap, subst, ◌∙◌}
use mathlib.Core.Bool.{true}
use mathlib.Core.Logic.{⊎_elim}
use mathlib.Core.List.Memᴰ
use mathlib.Core.List.{List, [], ◌∷◌, ◌++◌}
use Prim.Native.Nat.{ℕ, zero, suc, pred, ◌+◌, ◌-◌, ◌≤◌, ◌<◌}
use native.Mathlib.Omega.{arith}
use native.Mathlib.Nat.{add-zero}
use lib.ListN.{length, take, drop, get_or, length-take, length-drop}
use lib.Seq.{drop-drop, get_or-drop, take-append-le, drop-append-le}
use Rattle.words.specs.Words.{size_of, fills}
use Rattle.words.specs.Table.{Row, rows, entries, starts, RowIn}
use Rattle.words.specs.Ran.{Segments}
use Rattle.words.proofs.Walk.{size_pos, long, take_slice}
use Rattle.words.proofs.Handles.{rows_bound, at_row}
use Rattle.words.proofs.Join.{in_first, in_second, take_past, drop_past}
use Rattle.words.proofs.Grow.{rows_append}

-- the row r among those of the list l, which begins at position p
record Spot (p : ℕ) (l : List ℕ) (r : Row) : Type 0 where
  pub off : ℕ
  pub is : r.at ≡ p + off
  pub words : r.words ≡ take (size_of (get_or l off 0)) (drop off l)
  pub inside : off + size_of (get_or l off 0) ≤ length l

spot : (p k : ℕ) (l : List ℕ) (r : Row) → fills k l ≡ true → RowIn r (rows p k l) → Spot p l r
unfolding fills rows
spot p zero [] r f i = absurd (Memᴰ.not-nil i)
spot p (suc k) [] r f i = absurd (Memᴰ.not-nil i)
spot p zero (w ∷ l) r f i = ⊎_elim first (λ j. later (spot (suc p) (pred (size_of w)) l r f j)) (Memᴰ.cases_cons i)
  where
    first : r ≡ record { at = p; words = take (size_of w) (w ∷ l) } → Spot p (w ∷ l) r
    first q = record {
      off = 0;
      is = ap (λ (x : Row). x.at) q ∙ sym (add-zero p);
      words = ap (λ (x : Row). x.words) q;
      inside = omega (arith, long (pred (size_of w)) l f, size_pos w);
    }

    later : Spot (suc p) l r → Spot p (w ∷ l) r
    later s = record { off = suc s.off; is = s.is ∙ omega arith; words = s.words; inside = omega (arith, s.inside) }
spot p (suc k) (w ∷ l) r f i =
    let s = spot (suc p) k l r f i in
    record { off = suc s.off; is = s.is ∙ omega arith; words = s.words; inside = omega (arith, s.inside) }

-- the entry at a position of the used words
pub record Place (u : List ℕ) (r : Row) : Type 0 where
  pub low : 1 ≤ r.at
  pub words : r.words ≡ take (size_of (get_or u r.at 0)) (drop r.at u)
  pub inside : r.at + size_of (get_or u r.at 0) ≤ length u

pub place : (u : List ℕ) → fills 0 (drop 1 u) ≡ true → (r : Row) → RowIn r (entries u) → Place u r
unfolding entries
place u full r m =
    let s = spot 1 0 (drop 1 u) r full m in
    let w : get_or (drop 1 u) s.off 0 ≡ get_or u r.at 0 = get_or-drop 1 u s.off 0 ∙ ap (λ (k : ℕ). get_or u k 0) (sym s.is) in
    let d : drop s.off (drop 1 u) ≡ drop r.at u = drop-drop s.off 1 u ∙ ap (λ (k : ℕ). drop k u) (sym s.is) in
    let i : s.off + size_of (get_or u r.at 0) ≤ length (drop 1 u) = rw w at s.inside in
    record {
      low = omega (arith, s.is);
      words = s.words ∙ rw (w, d);
      inside = omega (arith, s.is, i, length-drop 1 u, size_pos (get_or u r.at 0));
    }

-- ---- the two segments

module _ (old new : List ℕ) (used at : ℕ) (s : Segments old new used) (start : starts (take used (old ++ new)) at ≡ true) where
  abbrev u : List ℕ
  u = take used (old ++ new)

  here : (1 ≤ at) × (at + size_of (get_or (take used (old ++ new)) at 0) ≤ used)
  here =
      let r = at_row (entries u) at start in
      let p = place u s.full r.0 r.1 in
      let i : at + size_of (get_or u at 0) ≤ length u = rw r.2 at p.inside in
      let l : 1 ≤ at = rw r.2 at p.low in
      (l, omega (arith, i, length-take used (old ++ new)))

  words_here : take (size_of (get_or u at 0)) (drop at u) ≡ take (size_of (get_or u at 0)) (drop at (old ++ new))
  words_here = take_slice at (size_of (get_or u at 0)) used (old ++ new) here.1

  module _ (first : at < length old) where
    -- an entry that starts in `old` ends there
    pub old_inside : at + size_of (get_or old at 0) ≤ length old
    unfolding entries
    old_inside =
        let r = at_row (entries u) at start in
        let q : 1 + length (drop 1 old) ≡ length old = omega (arith, length-drop 1 old) in
        let e : entries u ≡ entries old ++ rows (length old) 0 (take (used - length old) new) =
        ap (λ (l : List ℕ). rows 1 0 (drop 1 l)) (take_past old new used s.over)
        ∙ ap (rows 1 0) (drop-append-le 1 old (take (used - length old) new) (omega arith))
        ∙ rows_append 1 0 (drop 1 old) (take (used - length old) new) s.cut
        ∙ ap (λ (k : ℕ). rows 1 0 (drop 1 old) ++ rows k 0 (take (used - length old) new)) q in
        let m : RowIn r.0 (entries old ++ rows (length old) 0 (take (used - length old) new)) = subst (λ (l : List Row). RowIn r.0 l) e r.1 in
        ⊎_elim
        (λ (i : RowIn r.0 (entries old)). omega (arith, (place old s.cut r.0 i).inside, r.2, ap (λ (k : ℕ). size_of (get_or old k 0)) r.2))
        (λ (i : RowIn r.0 (rows (length old) 0 (take (used - length old) new))). absurd (omega (arith, (rows_bound (length old) 0 (take (used - length old) new) r.0 i).0, r.2)))
        (Memᴰ.append_cases (entries old) m)

    pub in_old : take (size_of (get_or old at 0)) (drop at old) ≡ take (size_of (get_or (take used (old ++ new)) at 0)) (drop at (take used (old ++ new)))
    in_old =
        let g : get_or old at 0 ≡ get_or u at 0 = in_first old new used at s.over first in
        let k : size_of (get_or u at 0) ≤ length (drop at old) = omega (arith, old_inside, length-drop at old, ap size_of g) in
        rw (words_here, g, drop-append-le at old new (omega arith), take-append-le (size_of (get_or u at 0)) (drop at old) new k)

  module _ (second : length old ≤ at) where
    new_word : get_or new (at - length old) 0 ≡ get_or (take used (old ++ new)) at 0
    new_word = in_second old new used at second (omega (arith, here.1, size_pos (get_or (take used (old ++ new)) at 0)))

    pub new_inside : (at - length old) + size_of (get_or new (at - length old) 0) ≤ length new
    new_inside = rw new_word (omega (arith, here.1, s.high))

    pub in_new : take (size_of (get_or new (at - length old) 0)) (drop (at - length old) new) ≡ take (size_of (get_or (take used (old ++ new)) at 0)) (drop at (take used (old ++ new)))
    in_new = rw (words_here, new_word, drop_past old new at second)
