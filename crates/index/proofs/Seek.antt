-- The search through a chain: what its loop knows. Assumes nothing.
use mathlib.Core.Path.{◌≡◌, refl, sym, ap, ◌∙◌}
use mathlib.Core.Bool.{Bool, true, false, cond}
use mathlib.Core.List.{List, []}
use Prim.Native.Nat.{ℕ, ◌+◌, ◌-◌, ◌/◌, ◌≤◌, ◌<◌}
use native.Mathlib.Omega.{arith}
use lib.ListN.{length, take, drop, get_or}
use Rattle.words.specs.Words.{size_of, eqs, fills}
use Rattle.words.specs.Table.{Row, entries, starts, find_in, RowIn}
use Rattle.std.specs.Prelude.{Option, Some, None}
use Rattle.words.proofs.Grow.{or_else}
use Rattle.index.specs.Digest.{bucket_of}
use Rattle.index.specs.Chains.{newest_first, newest, link, Indexed}
use Rattle.index.proofs.Older.{Falling, fall_below, entries_fall, in_rows, one, lowest, or_none, or_assoc, lowest_all}
use Rattle.words.proofs.Handles.{row_starts}
use Rattle.index.proofs.Place.{place}
use Rattle.index.proofs.Split.{newest_low, nowhere_in, Split, split}

-- The chain has come to `at`: what is left to search is `older`, and the lowest handle so far is `low`
pub record Seek (u index e : List ℕ) (at : ℕ) (low : Option ℕ) : Type 0 where
  pub older : List Row
  pub falling : Falling (length u) older
  pub within : (r : Row) → RowIn r older → RowIn r (entries u)
  pub is : newest (length index / 2) (bucket_of (length index / 2) e) older ≡ at
  pub links : (h : ℕ) → 0 < h → h ≤ at → get_or index (length index / 2 + h) 0 ≡ link (length index / 2) h older
  pub found : find_in u e ≡ or_else (lowest older e) low
  pub below : at < length index / 2

module _ (u index e : List ℕ) where
  abbrev n : ℕ
  n = length index / 2

  abbrev b : ℕ
  b = bucket_of (length index / 2) e

  pub seek_first : 1 ≤ length u → Indexed u index → bucket_of (length index / 2) e < length index / 2 → Seek u index e (get_or index (bucket_of (length index / 2) e) 0) None
  unfolding find_in
  seek_first low x l =
      let rs = newest_first [] (entries u) in
      let f = entries_fall u low in
      let q = x.holds.buckets b l in
      let small : newest n b rs < length u = newest_low n b rs f (omega arith) in
      record {
        older = rs;
        falling = f;
        within = in_rows (entries u);
        is = sym q;
        links = λ h p m. x.holds.links h p (omega (arith, q, x.room));
        found = sym (or_none (lowest rs e) ∙ lowest_all (entries u) e);
        below = omega (arith, q, x.room);
      }

  one_or : (t : Bool) (at : ℕ) (low : Option ℕ) → or_else (one t at) low ≡ cond t (Some at) low
  unfolding or_else
  one_or true at low = refl
  one_or false at low = refl

  module _ (at : ℕ) (low : Option ℕ) (s : Seek u index e at low) where
    pub seek_last : at ≡ 0 → low ≡ find_in u e
    unfolding or_else
    seek_last z = sym (s.found ∙ rw (nowhere_in n b s.older s.falling (s.is ∙ z) e refl))

    module _ (some : at ≡ 0 → ⊥) where
      z : 0 < at
      z = omega arith

      cut : Split n b s.older at
      cut = split n b s.older s.falling at s.is z

      pub seek_starts : starts u at ≡ true
      seek_starts = row_starts (entries u) (record { at = at; words = cut.words }) (s.within _ cut.row)

      here : get_or index (length index / 2 + at) 0 ≡ 1 + newest n b cut.older
      here = s.links at z (omega arith) ∙ cut.here

      -- the word of the handle: more than 0, and at most the handle
      pub seek_some : 0 < get_or index (length index / 2 + at) 0
      seek_some = omega (arith, here)

      pub seek_falls : get_or index (length index / 2 + at) 0 ≤ at
      seek_falls = omega (arith, here, newest_low n b cut.older cut.falling z)

      pub seek_next : fills 0 (drop 1 u) ≡ true → (t : Bool) → t ≡ eqs (take (size_of (get_or u at 0)) (drop at u)) e → (next : Option ℕ) → next ≡ cond t (Some at) low → Seek u index e (get_or index (length index / 2 + at) 0 - 1) next
      seek_next full t same next step =
          let r : Row = record { at = at; words = cut.words } in
          let p = place u full r (s.within r cut.row) in
          let same-words : eqs cut.words e ≡ t = ap (λ (w : List ℕ). eqs w e) p.words ∙ sym same in
          let m : newest n b cut.older ≡ get_or index (n + at) 0 - 1 = omega (arith, here) in
          record {
            older = cut.older;
            falling = fall_below cut.falling (omega (arith, p.inside));
            within = λ q i. s.within q (cut.within q i);
            is = m;
            links = λ h p l. s.links h p (omega (arith, seek_falls)) ∙ cut.links h (omega (arith, seek_falls));
            found =
                s.found ∙ ap (λ (f : Option ℕ). or_else f low) (cut.search e refl)
                ∙ or_assoc (lowest cut.older e) (one (eqs cut.words e) at) low
                ∙ ap (or_else (lowest cut.older e)) (rw same-words (one_or t at low) ∙ sym step);
            below = omega (arith, seek_falls, s.below);
          }
