-- The search in the index, and behind it. Assumes nothing.
use mathlib.Core.Path.{◌≡◌, sym, ap, ◌∙◌}
use mathlib.Core.Bool.{Bool, true, cond}
use mathlib.Core.List.{List, ◌++◌}
use Prim.Native.Nat.{ℕ, ◌+◌, ◌-◌, ◌/◌, ◌≤◌, ◌<◌}
use native.Mathlib.Omega.{arith}
use borrow.Author.Tests.{eq-eqb, ne_eqb}
use lib.ListN.{length, take, drop, get_or, length-take, drop_of_length-le}
use lib.Seq.{length-take-le, take-append-le, take-take}
use Rattle.words.specs.Words.{size_of, eqs, fills}
use Rattle.words.specs.Table.{rows, entries, first_of, find_in, starts}
use Rattle.words.specs.Ran.{Segments, Tail}
use Rattle.std.specs.Prelude.{Option, Some, None}
use Rattle.words.proofs.Grow.{or_else}
use Rattle.index.specs.Digest.{bucket_of}
use Rattle.index.proofs.Seek.{Seek, seek_first, seek_starts, seek_next}
use Rattle.index.specs.Covers.{indexed_to, Covers}
use Rattle.index.proofs.Prefix.{rest_fills, split_find, starts_whole, words_whole}

pub to_none : (index : List ℕ) → length index / 2 ≡ 0 → 1 ≡ indexed_to index
unfolding indexed_to
to_none index z = rw (eq-eqb _ _ z)

pub to_word : (index : List ℕ) → (length index / 2 ≡ 0 → ⊥) → get_or index (length index / 2) 0 ≡ indexed_to index
unfolding indexed_to
to_word index s = rw (ne_eqb _ _ s)

-- one word has no entries
pub found_none : (u e : List ℕ) → find_in (take 1 u) e ≡ None
unfolding find_in entries first_of rows
found_none u e =
    let n : length (take 1 u) ≤ 1 = omega (arith, length-take 1 u) in
    rw (drop_of_length-le (take 1 u) n)

module _ (u index : List ℕ) (c : Covers u index) where
  abbrev k : ℕ
  k = indexed_to index

  k_long : length (take (indexed_to index) u) ≡ indexed_to index
  k_long = length-take-le k u c.high

  pub empty_index : length index / 2 ≡ 0 → (e : List ℕ) → None ≡ find_in (take (indexed_to index) u) e
  empty_index z e = sym (rw (sym (to_none index z)) (found_none u e))

  module _ (some : length index / 2 ≡ 0 → ⊥) (e : List ℕ) where
    pub chain_start : (b : ℕ) → b ≡ bucket_of (length index / 2) e → b < length index / 2 → Seek (take (indexed_to index) u) index e (get_or index b 0) None
    chain_start b is l = rw is (seek_first (take k u) index e (omega (arith, k_long, c.low)) (c.indexed some) (rw is at l))

  module _ (e : List ℕ) (at : ℕ) (low : Option ℕ) (s : Seek (take (indexed_to index) u) index e at low) (some : at ≡ 0 → ⊥) where
    start : starts (take (indexed_to index) u) at ≡ true
    start = seek_starts (take k u) index e at low s some

    pub chain_starts : starts u at ≡ true
    chain_starts = starts_whole u k c.low c.high c.cut at start

    pub chain_next : (t : Bool) → t ≡ eqs (take (size_of (get_or u at 0)) (drop at u)) e → (next : Option ℕ) → next ≡ cond t (Some at) low → Seek (take (indexed_to index) u) index e (get_or index (length index / 2 + at) 0 - 1) next
    chain_next t same = seek_next (take k u) index e at low s some c.cut t (same ∙ ap (λ (w : List ℕ). eqs w e) (words_whole u k c.low c.high c.cut at start))

  module _ (full : fills 0 (drop 1 u) ≡ true) (e : List ℕ) (f : Option ℕ) (is : f ≡ find_in (take (indexed_to index) u) e) where
    pub found_first : (h : ℕ) → f ≡ Some h → Some h ≡ find_in u e
    unfolding or_else
    found_first h at = sym (split_find u k c.low c.high c.cut e ∙ rw (sym is ∙ at))

    pub found_later : f ≡ None → (j : ℕ) → j ≡ indexed_to index → (g : Option ℕ) → g ≡ first_of (rows j 0 (drop j u)) e → g ≡ find_in u e
    unfolding or_else
    found_later gone j to g it = it ∙ rw to (sym (split_find u k c.low c.high c.cut e ∙ rw (sym is ∙ gone)))

-- what is behind the index
pub tail_of : (old new : List ℕ) (used : ℕ) (index : List ℕ) → Segments old new used → Covers (take used (old ++ new)) index → (j : ℕ) → j ≡ indexed_to index → Tail old (take used (old ++ new)) j
tail_of old new used index s c j to =
    let u = take used (old ++ new) in
    let k = indexed_to index in
    rw to record {
      within = c.high;
      cut = λ l.
          let p : take k u ≡ take k old = take-take k used (old ++ new) (omega (arith, s.over)) ∙ take-append-le k old new (omega arith) in
          let cut : fills 0 (drop 1 (take k old)) ≡ true = rw p at c.cut in
          rest_fills old k c.low (omega arith) cut s.cut;
      full = rest_fills u k c.low c.high c.cut s.full;
    }
