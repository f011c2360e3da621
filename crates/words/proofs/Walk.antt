-- The walk over a store's entries: what one step does to `fills` and `rows`. Assumes nothing.
use mathlib.Core.Path.{◌≡◌, refl, sym, ap, ◌∙◌}
use mathlib.Core.Bool.{Bool, true, false, cond}
use mathlib.Core.List.{List, [], ◌∷◌}
use Prim.Native.Nat.{ℕ, zero, suc, pred, ◌+◌, ◌-◌, ◌≤◌, ◌<◌}
use native.Mathlib.Omega.{arith}
use native.Mathlib.Nat.{add-zero}
use lib.ListN.{length, take, drop, get_or}
use Rattle.std.specs.Prelude.{Option, Some, None}
use native.Mathlib.Nat.{add-sub_cancel_left}
use lib.ListN.{drop_of_length-le, length-take}
use lib.Seq.{slice, slice-cons, drop-drop, length-slice, take-take}
use Rattle.words.specs.Words.{size_of, eqs, fills}
use Rattle.words.specs.Table.{rows, first_of}

-- no entry is empty
pub size_pos : (w : ℕ) → 0 < size_of w
unfolding size_of
size_pos w = omega arith

-- past the k words that are left of an entry
pub skip_fills : (k : ℕ) (l : List ℕ) → k ≤ length l → fills k l ≡ fills 0 (drop k l)
unfolding fills
skip_fills zero l h = refl
skip_fills (suc k) [] h = absurd (omega arith)
skip_fills (suc k) (w ∷ l) h = skip_fills k l (omega arith)

pub skip_rows : (at k : ℕ) (l : List ℕ) → k ≤ length l → rows at k l ≡ rows (at + k) 0 (drop k l)
unfolding rows
skip_rows at zero l h = rw add-zero
skip_rows at (suc k) [] h = absurd (omega arith)
skip_rows at (suc k) (w ∷ l) h = skip_rows (suc at) k l (omega arith) ∙ ap (λ (n : ℕ). rows n 0 (drop k l)) (omega arith)

-- entries that run past the end do not fill
pub short : (k : ℕ) (l : List ℕ) → length l < k → fills k l ≡ false
unfolding fills
short zero l h = absurd (omega arith)
short (suc k) [] h = refl
short (suc k) (w ∷ l) h = short k l (omega arith)

pub long : (k : ℕ) (l : List ℕ) → fills k l ≡ true → k ≤ length l
unfolding fills
long zero l f = omega arith
long (suc k) [] f = let z : ◌≡◌ {A = ℕ} 0 1 = cc in absurd (omega arith)
long (suc k) (w ∷ l) f = let h = long k l f in omega arith

-- the words of an entry that ends within the used words
pub take_slice : (at n used : ℕ) (ws : List ℕ) → at + n ≤ used → take n (slice at used ws) ≡ take n (drop at ws)
take_slice zero n used ws h = take-take n used ws (omega arith)
take_slice (suc at) n zero ws h = absurd (omega arith)
take_slice (suc at) n (suc used) [] h = refl
take_slice (suc at) n (suc used) (x ∷ ws) h = take_slice at n used ws (omega arith)

-- the entry at index `at`, which is position `pos` of the store, whose words end within the used words, and those after it
pub record Next (ws : List ℕ) (pos used at : ℕ) : Type 0 where
  pub filled : fills 0 (slice at used ws) ≡ fills 0 (slice (at + size_of (get_or ws at 0)) used ws)
  pub row : rows pos 0 (slice at used ws) ≡ record { at = pos; words = take (size_of (get_or ws at 0)) (drop at ws) } ∷ rows (pos + size_of (get_or ws at 0)) 0 (slice (at + size_of (get_or ws at 0)) used ws)

module _ (ws : List ℕ) (used at : ℕ) (high : used ≤ length ws) (more : at < used) where
  pub next : (pos : ℕ) → at + size_of (get_or ws at 0) ≤ used → Next ws pos used at
  unfolding fills rows
  next pos inside =
      let w = get_or ws at 0 in
      let k = pred (size_of w) in
      let some = size_pos w in
      let l = slice (suc at) used ws in
      let e = slice-cons at used ws 0 more high in
      let n : suc at + k ≡ at + size_of w = omega arith in
      let m : suc pos + k ≡ pos + size_of w = omega arith in
      let h : k ≤ length l = omega (arith, length-slice (suc at) used ws high) in
      let q : drop k l ≡ slice (at + size_of w) used ws = drop-drop k (suc at) (take used ws) ∙ ap (λ (m : ℕ). slice m used ws) n in
      record {
        filled = ap (fills 0) e ∙ skip_fills k l h ∙ ap (fills 0) q;
        row = rw e (cc (ap (take (size_of w)) (sym e) ∙ take_slice at (size_of w) used ws inside, skip_rows (suc pos) k l h, q, m));
      }

  pub over : used < at + size_of (get_or ws at 0) → fills 0 (slice at used ws) ≡ false
  unfolding fills
  over out =
      let w = get_or ws at 0 in
      let h : length (slice (suc at) used ws) < pred (size_of w) = omega (arith, length-slice (suc at) used ws high) in
      rw (slice-cons at used ws 0 more high) (short (pred (size_of w)) (slice (suc at) used ws) h)

  pub inside : fills 0 (slice at used ws) ≡ true → at + size_of (get_or ws at 0) ≤ used
  unfolding fills
  inside full =
      let w = get_or ws at 0 in
      let pos = size_pos w in
      omega (arith, long (pred (size_of w)) (slice (suc at) used ws) (rw (slice-cons at used ws 0 more high) at full), length-slice (suc at) used ws high)

-- what a turn of `look` knows: the entry at `at` is the one looked for, or is not
module _ (ws : List ℕ) (base to : ℕ) (e : List ℕ) (all : Option ℕ) (at n : ℕ) (t : Bool)
    (high : to ≤ length ws) (more : at < to) (full : fills 0 (slice at to ws) ≡ true)
    (left : all ≡ first_of (rows (base + at) 0 (slice at to ws)) e)
    (sized : n ≡ size_of (get_or ws at 0))
    (same : t ≡ eqs (take ((at + n) - at) (drop at ws)) e) where
  looked : all ≡ cond t (Some (base + at)) (first_of (rows (base + (at + n)) 0 (slice (at + n) to ws)) e)
  unfolding first_of
  looked =
      let q : (base + at) + size_of (get_or ws at 0) ≡ base + (at + size_of (get_or ws at 0)) = omega arith in
      left ∙ rw ((next ws to at high more (base + at) (inside ws to at high more full)).row, same, add-sub_cancel_left, sized, q)

  pub hit : t ≡ true → Some (base + at) ≡ all
  hit it = sym (looked ∙ rw it)

  pub missed : t ≡ false → (fills 0 (slice (at + n) to ws) ≡ true) × (all ≡ first_of (rows (base + (at + n)) 0 (slice (at + n) to ws)) e)
  missed not = let within = inside ws to at high more full in (rw sized (sym (next ws to at high more 0 within).filled ∙ full), looked ∙ rw not)

pub none_left : (ws : List ℕ) (base to : ℕ) (e : List ℕ) (all : Option ℕ) (at : ℕ) → all ≡ first_of (rows (base + at) 0 (slice at to ws)) e → to ≤ at → None ≡ all
unfolding first_of rows
none_left ws base to e all at left out =
    let h : length (take to ws) ≤ at = omega (arith, length-take to ws) in
    sym (left ∙ rw (drop_of_length-le (take to ws) h))
