-- Windows of the used words: what a turn in one knows, and what is known behind it. Assumes nothing.
use mathlib.Core.Path.{◌≡◌, refl, sym, ap, ◌∙◌}
use mathlib.Core.Bool.{Bool, true, false, not, cond}
use Rattle.std.proofs.Common.{Option, Some, None}
use Rattle.std.specs.Option.{option_eq}
use mathlib.Core.List.{List, [], ◌++◌}
use Prim.Native.Nat.{ℕ, ◌+◌, ◌-◌, ◌*◌, ◌/◌, ◌≤◌, ◌<◌, min}
use native.Mathlib.Omega.{arith}
use native.Mathlib.Decide.{ℕ_discrete, dec_lt}
use borrow.Author.Tests.{eq-eqb, ne_eqb}
use native.Mathlib.Nat.{add-sub_cancel_left}
use lib.ListN.{length, take, drop, get_or, length-take, length-drop}
use lib.Seq.{get_or-take, get_or-drop, take-append-le, take-take, drop-drop, length-take-le}
use lib.Dec.{eqb, leb}
use Rattle.words.specs.Words.{size_of, words_after, kind_of, count_of}
use Rattle.words.proofs.Walk.{size_pos, take_slice}
use Rattle.source.specs.Source.{stored}
use Rattle.source.proofs.Both.{stored_none}
use Rattle.bitset.specs.Bitset.{bit_at, nowhere, also}
use Rattle.wellformed.specs.Form.{heads_at, ok_entries}
use Rattle.wellformed.specs.Entry.{ok_entry}
use Rattle.wellformed.specs.Scan.{Passed, Window, Going, Scanned}
use Rattle.wellformed.proofs.ByKind.{many}
use Rattle.wellformed.proofs.Passed.{begin, bad, runs_over, bad_entry, good_entry, all_good}

low : (t : Bool) (m a b : ℕ) → a ≤ m → b ≤ m → cond t a b ≤ m
low true m a b p q = p
low false m a b p q = q

-- an entry that counts at most 255
pub size_most : (w : ℕ) → w / 65536 ≤ 255 → size_of w ≤ 767
unfolding size_of words_after
size_most w few =
    let k = kind_of w in
    let n = count_of w in
    let g : cond (leb k 11) 2 0 ≤ 766 = low (leb k 11) 766 2 0 (omega arith) (omega arith) in
    let f : cond (eqb k 9) 1 (cond (leb k 11) 2 0) ≤ 766 = low (eqb k 9) 766 1 _ (omega arith) g in
    let e : cond (eqb k 8) (1 + 3 * n) (cond (eqb k 9) 1 (cond (leb k 11) 2 0)) ≤ 766 = low (eqb k 8) 766 (1 + 3 * n) _ (omega arith) f in
    let d : cond (eqb k 7) n (cond (eqb k 8) (1 + 3 * n) (cond (eqb k 9) 1 (cond (leb k 11) 2 0))) ≤ 766 = low (eqb k 7) 766 n _ (omega arith) e in
    let c : cond (leb k 6) 2 (cond (eqb k 7) n (cond (eqb k 8) (1 + 3 * n) (cond (eqb k 9) 1 (cond (leb k 11) 2 0)))) ≤ 766 = low (leb k 6) 766 2 _ (omega arith) d in
    let b : cond (leb k 4) 0 (cond (leb k 6) 2 (cond (eqb k 7) n (cond (eqb k 8) (1 + 3 * n) (cond (eqb k 9) 1 (cond (leb k 11) 2 0))))) ≤ 766 = low (leb k 4) 766 0 _ (omega arith) c in
    let a : cond (eqb k 0) ((n + 7) / 8) (cond (leb k 4) 0 (cond (leb k 6) 2 (cond (eqb k 7) n (cond (eqb k 8) (1 + 3 * n) (cond (eqb k 9) 1 (cond (leb k 11) 2 0)))))) ≤ 766 = low (eqb k 0) 766 ((n + 7) / 8) _ (omega arith) b in
    omega arith

counts : (w : ℕ) → 767 < size_of w → 255 < w / 65536
counts w h = pick (dec_lt 255 (w / 65536))
  where
    pick : Dec (255 < w / 65536) → 255 < w / 65536
    pick (yes g) = g
    pick (no g) = let f : w / 65536 ≤ 255 = omega arith in absurd (omega (arith, size_most w f))

-- ---- a turn of `run`: the entry at index i of a window

module _ (ws : List ℕ) (used base : ℕ) (w : List ℕ) (win : Window ws used base w) (i n : ℕ) (more : i < length w) (sized : n ≡ size_of (get_or w i 0)) where
  pub sized_in : n ≡ size_of (get_or ws (base + i) 0)
  sized_in = sized ∙ ap size_of (ap (λ (l : List ℕ). get_or l i 0) win.part ∙ get_or-take (length w) (drop base ws) i 0 more ∙ get_or-drop base ws i 0)

  pub in_use : base + i < used
  in_use = omega (arith, win.inside)

  pub stops : (bits : List ℕ) → Passed ws used bits (base + i) → length w - i < n → Going ws used bits base (length w) (Some i)
  unfolding Going
  stops bits p out = let h : length w < i + n = omega arith in (p, omega arith, λ x. rw (← sized_in) h)

  module _ (fits : n ≤ length w - i) where
    pub ends : base + i + n ≤ used
    ends = omega (arith, win.inside)

    pub lent_sized : length (take ((i + n) - i) (drop i w)) ≡ size_of (get_or (take ((i + n) - i) (drop i w)) 0 0)
    lent_sized =
        let pos = size_pos (get_or w i 0) in
        let g : get_or (take n (drop i w)) 0 0 ≡ get_or w i 0 = get_or-take n (drop i w) 0 0 (omega arith) ∙ get_or-drop i w 0 0 ∙ ap (λ (k : ℕ). get_or w k 0) (omega arith) in
        rw (add-sub_cancel_left, g, ← sized) (omega (arith, length-take n (drop i w), length-drop i w))

    pub lent : take ((i + n) - i) (drop i w) ≡ take n (drop (base + i) ws)
    lent =
        let h : i + n ≤ length w = omega arith in
        rw add-sub_cancel_left (ap (λ (l : List ℕ). take n (drop i l)) win.part ∙ take_slice i n (length w) (drop base ws) h ∙ ap (take n) (drop-drop i base ws))

-- the same where the entry ends in the window, and r says whether it is right
module _ (ws bits : List ℕ) (used base : ℕ) (w : List ℕ) (win : Window ws used base w) (high : used ≤ length ws) (i n : ℕ) (more : i < length w) (sized : n ≡ size_of (get_or w i 0)) (fits : n ≤ length w - i) (p : Passed ws used bits (base + i)) (r : Bool) (is : r ≡ ok_entry (heads_at (bit_at bits) ws) (take ((i + n) - i) (drop i w))) where
  right : r ≡ ok_entry (heads_at (bit_at bits) ws) (take n (drop (base + i) ws))
  right = is ∙ ap (ok_entry (heads_at (bit_at bits) ws)) (lent ws used base w win i n more sized fits)

  pub turn_bad : r ≡ false → Going ws used bits base (length w) None
  unfolding Going
  turn_bad f = bad_entry ws used (base + i) n bits high p (in_use ws used base w win i n more sized) (sized_in ws used base w win i n more sized) (ends ws used base w win i n more sized fits) r right (ap not f)

  pub turn_good : r ≡ true → (bits' : List ℕ) → bit_at bits' ≡ also (base + i) (bit_at bits) → Passed ws used bits' (base + (i + n))
  turn_good t bits' e =
      let q : base + (i + n) ≡ base + i + n = omega arith in
      rw q (good_entry ws used (base + i) n bits high p (in_use ws used base w win i n more sized) (sized_in ws used base w win i n more sized) (ends ws used base w win i n more sized fits) r right (ap not t) bits' e)

pub goes_end : (ws bits : List ℕ) (used base m i : ℕ) → Passed ws used bits (base + i) → i ≤ m → m ≤ i → Going ws used bits base m (Some i)
unfolding Going
goes_end ws bits used base m i p low out = (p, low, λ x. absurd (omega arith))

-- ---- what a run says

module _ (ws bits : List ℕ) (used base m : ℕ) (r : Option ℕ) (g : Going ws used bits base m r) where
  pub run_bad : r ≡ None → ok_entries ws used ≡ false
  unfolding Going
  run_bad e = rw e at g

  pub run_at : (i : ℕ) → r ≡ Some i → (Passed ws used bits (base + i)) × (i ≤ m) × (i < m → m < i + size_of (get_or ws (base + i) 0))
  unfolding Going
  run_at i e = rw e at g

-- ---- entries: one window

module _ (ws : List ℕ) (used : ℕ) (low : 1 ≤ used) (high : used ≤ length ws) where
  plain_length : length (take used ws) ≡ used
  plain_length = length-take-le used ws high

  pub plain_window : Window (stored ws []) used 0 (take used ws)
  plain_window = record { part = rw (stored_none ws [] refl, plain_length); inside = omega (arith, plain_length) }

  pub plain_some : 1 ≤ length (take used ws)
  plain_some = omega (arith, plain_length)

  pub plain_begin : (bits : List ℕ) → bit_at bits ≡ nowhere → Passed (stored ws []) used bits 1
  plain_begin bits none = begin (stored ws []) used bits low none

  plain_at : (bits : List ℕ) (i : ℕ) → Going (stored ws []) used bits 0 (length (take used ws)) (Some i) → Scanned ws used bits (eqb i used)
  unfolding Going
  plain_at bits i g = go (ℕ_discrete i used)
    where
      z : 0 + i ≡ i
      z = omega arith

      p : Passed ws used bits i
      p = rw (stored_none ws [] refl, z) at g.0

      go : Dec (i ≡ used) → Scanned ws used bits (eqb i used)
      go (yes h) = rw (eq-eqb i used h) (all_good ws used i bits p (omega arith))
      go (no h) =
          let l : i < used = omega (arith, g.1, plain_length) in
          let k : i < length (take used ws) = omega (arith, plain_length) in
          let o : length (take used ws) < i + size_of (get_or ws i 0) = rw (stored_none ws [] refl, z) at (g.2 k) in
          rw (ne_eqb i used h) (bad ws used bits (runs_over ws used i (size_of (get_or ws i 0)) bits high p l refl (omega (arith, plain_length))))

  -- all entries are right where the run ends at the last
  pub plain_run : (bits : List ℕ) (r : Option ℕ) → Going (stored ws []) used bits 0 (length (take used ws)) r → Scanned ws used bits (option_eq eqb r (Some used))
  unfolding Going
  plain_run bits None g = bad ws used bits (ap (λ (l : List ℕ). ok_entries l used) (sym (stored_none ws [] refl)) ∙ g)
  plain_run bits (Some i) g = plain_at bits i g

-- ---- entries_in: windows that are copied

module _ (ws : List ℕ) (used at m : ℕ) (high : used ≤ length ws) (more : at < used) (fits : m ≤ used - at) (d₀ d : List ℕ) (is : d ≡ take m (drop at ws) ++ drop m d₀) where
  cut : length (take m (drop at ws)) ≡ m
  cut = omega (arith, length-take m (drop at ws), length-drop at ws)

  copy : take m d ≡ take m (drop at ws)
  copy = rw is (take-append-le m (take m (drop at ws)) (drop m d₀) (omega (arith, cut)) ∙ take-take m m (drop at ws) (omega arith))

  pub copy_length : length (take m d) ≡ m
  copy_length = ap (λ (l : List ℕ). length l) copy ∙ cut

  -- an entry that is longer than the room
  module _ (room : ℕ) (bits : List ℕ) (p : Passed ws used bits at) (enough : 767 ≤ room) (least : m ≡ min room (used - at)) where
    pub too_long : m < size_of (get_or ws at 0) → ok_entries ws used ≡ false
    too_long out = go (dec_lt used (at + size_of (get_or ws at 0)))
      where
        go : Dec (used < at + size_of (get_or ws at 0)) → ok_entries ws used ≡ false
        go (yes h) = runs_over ws used at (size_of (get_or ws at 0)) bits high p more refl h
        go (no h) =
            let n = size_of (get_or ws at 0) in
            let k : at + n ≤ used = omega arith in
            let big : 767 < n = omega arith in
            let pos = size_pos (get_or ws at 0) in
            let e : get_or (take n (drop at ws)) 0 0 ≡ get_or ws at 0 = get_or-take n (drop at ws) 0 0 (omega arith) ∙ get_or-drop at ws 0 0 ∙ ap (λ (k : ℕ). get_or ws k 0) (omega arith) in
            let c : 255 < get_or (take n (drop at ws)) 0 0 / 65536 = counts (get_or (take n (drop at ws)) 0 0) (omega (arith, ap size_of e)) in
            bad_entry ws used at n bits high p more refl k false (many (heads_at (bit_at bits) ws) (take n (drop at ws)) c) refl

  pub copied_long : (room : ℕ) (bits' : List ℕ) (i : ℕ) → 767 ≤ room → m ≡ min room (used - at) → (r : Option ℕ) → Going ws used bits' at (length (take m d)) r → r ≡ Some i → i ≡ 0 → Scanned ws used bits' false
  copied_long room bits' i enough least r g e z =
      let q = run_at ws bits' used at (length (take m d)) r g i e in
      let a : at + i ≡ at = omega arith in
      let p : Passed ws used bits' at = rw a at q.0 in
      let k : i < length (take m d) = omega (arith, copy_length) in
      let o : length (take m d) < i + size_of (get_or ws at 0) = rw a at (q.2 k) in
      bad ws used bits' (too_long room bits' p enough least (omega (arith, copy_length)))
