-- What making an entry keeps: that entries fill the used words, that no two are equal, and all that stood. Assumes nothing.
use mathlib.Core.Path.{◌≡◌, refl, sym, ◌∙◌}
use mathlib.Core.Bool.{true}
use mathlib.Core.List.Memᴰ
use mathlib.Core.List.{List, [], ◌∷◌, ◌++◌, append-nil, append_assoc}
use Prim.Native.Nat.{ℕ, ◌+◌, ◌≤◌}
use native.Mathlib.Omega.{arith}
use lib.ListN.{length, take, drop, length-drop, length-append}
use lib.Seq.{drop-append-le, length-take-le}
use Rattle.words.specs.Words.{fills}
use Rattle.words.specs.Table.{Row, entries, find_in, RowIn, Own}
use Rattle.words.specs.Ran.{HasSize, Segments}
use Rattle.words.specs.Made.{Grown, make}
use Rattle.std.specs.Prelude.{Option, Some, None}
use Rattle.words.proofs.Grow.{fills_append, rows_append, one_fills, one_row, found_in, own_snoc}
use Rattle.words.proofs.Extend.{Extends, ext_same, ext_by, ext_then, ext_length}
use Rattle.words.proofs.Room.{Fit, fit_front}
use Rattle.words.proofs.Placed.{make_there, make_new}

-- an operation keeps the used words, with its entries behind theirs
pub record Appends (u : List ℕ) (g : Grown) : Type 0 where
  pub ext : Extends u g.words
  pub full : fills 0 (drop 1 g.words) ≡ true
  pub extra : List Row
  pub rows : entries g.words ≡ entries u ++ extra
  pub own : Own (entries u) → Own (entries g.words)

-- one operation after another
pub appends_then : (u : List ℕ) (g g₂ : Grown) → Appends u g → Appends g.words g₂ → Appends u g₂
appends_then u g g₂ a b = record {
  ext = ext_then u g.words g₂.words a.ext b.ext;
  full = b.full;
  extra = a.extra ++ b.extra;
  rows = b.rows ∙ rw a.rows (append_assoc (entries u) a.extra b.extra);
  own = λ o. b.own (a.own o);
}

-- an operation that makes nothing
pub appends_none : (u : List ℕ) (h : ℕ) → fills 0 (drop 1 u) ≡ true → Appends u (record { words = u; handle = h })
appends_none u h full = record { ext = ext_same u; full = full; extra = []; rows = sym (append-nil (entries u)); own = λ o. o }

module _ (u e : List ℕ) (low : 1 ≤ length u) (full : fills 0 (drop 1 u) ≡ true) (sized : HasSize e) where
  pub entries_append : entries (u ++ e) ≡ entries u ++ (record { at = length u; words = e } ∷ [])
  unfolding entries
  entries_append =
      let n : 1 + length (drop 1 u) ≡ length u = omega (arith, length-drop 1 u) in
      rw (drop-append-le 1 u e low, rows_append 1 0 (drop 1 u) e full, n, one_row (length u) e sized)

  pub fills_more : fills 0 (drop 1 (u ++ e)) ≡ true
  fills_more = rw (drop-append-le 1 u e low) (fills_append 0 (drop 1 u) e full ∙ one_fills e sized)

  pub make_appends : Appends u (make u e)
  unfolding find_in
  make_appends = go (find_in u e) refl
    where
      go : (f : Option ℕ) → find_in u e ≡ f → Appends u (make u e)
      go (Some h) q = rw (make_there u e h q) (appends_none u h full)
      go None q = rw (make_new u e q) record {
        ext = ext_by u e;
        full = fills_more;
        extra = record { at = length u; words = e } ∷ [];
        rows = entries_append;
        own = λ o. rw entries_append (own_snoc (entries u) (length u) e o q);
      }

  -- the entry stands at its handle
  pub make_in : RowIn (record { at = (make u e).handle; words = e }) (entries (make u e).words)
  unfolding find_in
  make_in = go (find_in u e) refl
    where
      go : (f : Option ℕ) → find_in u e ≡ f → RowIn (record { at = (make u e).handle; words = e }) (entries (make u e).words)
      go (Some h) q = rw (make_there u e h q) (found_in (entries u) e h q)
      go None q = rw (make_new u e q, entries_append) (Memᴰ.append_right (entries u) (Memᴰ.head refl))

-- after an operation that fitted, the segments are a store again, for the next
pub segments_after : (old new new₁ : List ℕ) (used : ℕ) (g : Grown) (h used₁ : ℕ) → Segments old new used → Appends (take used (old ++ new)) g → length new₁ ≡ length new
    → Fit g (old ++ new) (old ++ new₁) h used₁ → Segments old new₁ used₁
segments_after old new new₁ used g h used₁ s k len f =
    let n : length (take used (old ++ new)) ≡ used = length-take-le used (old ++ new) (omega (arith, length-append old new, s.high)) in
    let m : used ≤ used₁ = omega (arith, n, ext_length (take used (old ++ new)) g.words k.ext, f.end) in
    record {
      low = omega (arith, s.low);
      over = omega (arith, s.over);
      high = omega (arith, f.end, f.room, length-append old new);
      cut = s.cut;
      full = rw (fit_front g (old ++ new) (old ++ new₁) h used₁ f) k.full;
    }
