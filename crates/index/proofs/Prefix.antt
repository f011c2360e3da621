-- The first k of the used words u, and what is behind them. Assumes nothing.
use mathlib.Core.Path.{◌≡◌, sym, ap, ◌∙◌}
use mathlib.Core.Bool.{true}
use mathlib.Core.List.{List, ◌++◌}
use Prim.Native.Nat.{ℕ, ◌+◌, ◌≤◌}
use native.Mathlib.Omega.{arith}
use lib.ListN.{length, take, drop, get_or, length-drop, take-append-drop}
use lib.Seq.{drop-append-le, length-take-le, get_or-take}
use Rattle.words.specs.Words.{size_of, fills}
use Rattle.words.specs.Table.{Row, rows, entries, first_of, find_in, is_at, starts}
use Rattle.words.proofs.Walk.{size_pos, take_slice}
use Rattle.words.proofs.Grow.{fills_append, rows_append, or_else, first_append}
use Rattle.words.proofs.Handles.{at_more, at_row}
use Rattle.index.proofs.Place.{place}

module _ (u : List ℕ) (k : ℕ) (low : 1 ≤ k) (high : k ≤ length u) (cut : fills 0 (drop 1 (take k u)) ≡ true) where
  k_long : length (take k u) ≡ k
  k_long = length-take-le k u high

  pub split_words : drop 1 u ≡ drop 1 (take k u) ++ drop k u
  split_words = ap (drop 1) (sym (take-append-drop k u)) ∙ drop-append-le 1 (take k u) (drop k u) (omega (arith, k_long))

  pub rest_fills : fills 0 (drop 1 u) ≡ true → fills 0 (drop k u) ≡ true
  rest_fills full = sym (fills_append 0 (drop 1 (take k u)) (drop k u) cut) ∙ ap (fills 0) (sym split_words) ∙ full

  pub split_entries : entries u ≡ entries (take k u) ++ rows k 0 (drop k u)
  unfolding entries
  split_entries =
      let n : 1 + length (drop 1 (take k u)) ≡ k = omega (arith, length-drop 1 (take k u), k_long) in
      ap (rows 1 0) split_words ∙ rows_append 1 0 (drop 1 (take k u)) (drop k u) cut ∙ ap (λ (j : ℕ). rows 1 0 (drop 1 (take k u)) ++ rows j 0 (drop k u)) n

  pub split_find : (e : List ℕ) → find_in u e ≡ or_else (find_in (take k u) e) (first_of (rows k 0 (drop k u)) e)
  unfolding find_in
  split_find e = ap (λ (rs : List Row). first_of rs e) split_entries ∙ first_append (entries (take k u)) (rows k 0 (drop k u)) e

  module _ (at : ℕ) (start : starts (take k u) at ≡ true) where
    pub starts_whole : starts u at ≡ true
    starts_whole = ap (λ (rs : List Row). is_at rs at) split_entries ∙ at_more (entries (take k u)) (rows k 0 (drop k u)) at start

    within : at + size_of (get_or (take k u) at 0) ≤ k
    within =
        let r = at_row (entries (take k u)) at start in
        omega (arith, (place (take k u) cut r.0 r.1).inside, r.2, ap (λ (j : ℕ). size_of (get_or (take k u) j 0)) r.2, k_long)

    pub words_whole : take (size_of (get_or u at 0)) (drop at u) ≡ take (size_of (get_or (take k u) at 0)) (drop at (take k u))
    words_whole =
        let g : get_or (take k u) at 0 ≡ get_or u at 0 = get_or-take k u at 0 (omega (arith, within, size_pos (get_or (take k u) at 0))) in
        let l : at + size_of (get_or u at 0) ≤ k = omega (arith, within, ap size_of g) in
        sym (ap (λ (w : ℕ). take (size_of w) (drop at (take k u))) g ∙ take_slice at (size_of (get_or u at 0)) k u l)
