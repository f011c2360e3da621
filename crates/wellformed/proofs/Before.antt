-- What a store that is well formed has: its entries fill the used words, and each entry's parts are earlier entries. Assumes nothing.
use mathlib.Core.Path.{◌≡◌, refl}
use mathlib.Core.Bool.{Bool, true, false, ◌&&◌, ◌||◌}
use mathlib.Core.Logic.{⊎_elim}
use mathlib.Core.List.Memᴰ
use mathlib.Core.List.{List, [], ◌∷◌}
use Prim.Native.Nat.{ℕ, zero, suc, pred, ◌≤◌, ◌<◌}
use native.Mathlib.Omega.{arith}
use borrow.Author.Tests.{leb-true, eqb-true, le-leb}
use lib.ListN.{length, take, drop, get_or}
use lib.Seq.{slice}
use lib.Dec.{eqb, leb}
use Rattle.words.specs.Words.{size_of, fills, eqs}
use Rattle.words.specs.Table.{Row, rows, entries, RowIn}
use Rattle.bitset.specs.Bitset.{also, nowhere}
use Rattle.words.specs.Ran.{Segments}
use Rattle.wellformed.specs.Fresh.{fresh_words}
use Rattle.wellformed.specs.Form.{all_zero, heads_at, ok_rows, ok_entries, well_formed}
use Rattle.wellformed.specs.Entry.{ok_entry}
use Rattle.wellformed.proofs.Bools.{and_left, and_right}

-- the tests of a store, each for itself
pub record Tests (ws : List ℕ) : Type 0 where
  pub least : 94 ≤ length ws
  pub most : length ws ≤ 1048576
  pub fresh : eqs (take 93 (drop 1 ws)) fresh_words ≡ true
  pub enough : 94 ≤ get_or ws 0 0
  pub within : get_or ws 0 0 ≤ length ws
  pub zeros : all_zero (drop (get_or ws 0 0) ws) ≡ true
  pub filled : fills 0 (drop 1 (take (get_or ws 0 0) ws)) ≡ true
  pub right : ok_rows ws nowhere (entries (take (get_or ws 0 0) ws)) ≡ true

pub tests : (ws : List ℕ) → well_formed ws ≡ true → Tests ws
unfolding well_formed ok_entries
tests ws h =
    let used = get_or ws 0 0 in
    let z = leb 94 (length ws) in
    let y = z && leb (length ws) 1048576 in
    let a = y && eqs (take 93 (drop 1 ws)) fresh_words in
    let b = a && leb 94 used in
    let c = b && leb used (length ws) in
    let d = c && all_zero (drop used ws) in
    let e = ok_entries ws used in
    let hd = and_left d e h in
    let hc = and_left c (all_zero (drop used ws)) hd in
    let hb = and_left b (leb used (length ws)) hc in
    let ha = and_left a (leb 94 used) hb in
    let hy = and_left y (eqs (take 93 (drop 1 ws)) fresh_words) ha in
    record {
      least = leb-true _ _ (and_left z (leb (length ws) 1048576) hy);
      most = leb-true _ _ (and_right z (leb (length ws) 1048576) hy);
      fresh = and_right y (eqs (take 93 (drop 1 ws)) fresh_words) ha;
      enough = leb-true _ _ (and_right a (leb 94 used) hb);
      within = leb-true _ _ (and_right b (leb used (length ws)) hc);
      zeros = and_right c (all_zero (drop used ws)) hd;
      filled = and_left (fills 0 (drop 1 (take used ws))) (ok_rows ws nowhere (entries (take used ws))) (and_right d e h);
      right = and_right (fills 0 (drop 1 (take used ws))) (ok_rows ws nowhere (entries (take used ws))) (and_right d e h);
    }

pub passes : (ws : List ℕ) → Tests ws → well_formed ws ≡ true
unfolding well_formed ok_entries
passes ws t = rw (le-leb _ _ t.least, le-leb _ _ t.most, t.fresh, le-leb _ _ t.enough, le-leb _ _ t.within, t.zeros, t.filled, t.right)

-- the bridge to what `find` and `intern` require: the whole store is the second segment
pub well_segments : (ws : List ℕ) → well_formed ws ≡ true → Segments [] ws (get_or ws 0 0)
unfolding fills
well_segments ws h =
    let t = tests ws h in
    record { low = omega (arith, t.enough); over = omega arith; high = omega (arith, t.within); cut = refl; full = t.filled }

-- an entry that was checked, against starts that are earlier and of which P holds
pub record Checked (P : ℕ → Type 0) (ws : List ℕ) (r : Row) : Type 0 where
  pub start : ℕ → Bool
  pub earlier : (h : ℕ) → start h ≡ true → (h < r.at) × P h
  pub ok : ok_entry (heads_at start ws) r.words ≡ true

module _ (P : ℕ → Type 0) (ws : List ℕ) where
  one_more : (at : ℕ) (start : ℕ → Bool) → ((h : ℕ) → start h ≡ true → (h < at) × P h) → P at → (h : ℕ) → also at start h ≡ true → (h < suc at) × P h
  unfolding also
  one_more at start before p h is = go (eqb at h) refl is
    where
      go : (t : Bool) → eqb at h ≡ t → (t || start h) ≡ true → (h < suc at) × P h
      go true e q = (omega (arith, eqb-true at h e), rw (← eqb-true at h e) p)
      go false e q = (omega (arith, (before h q).0), (before h q).1)

  pub checked : (at k : ℕ) (l : List ℕ) (start : ℕ → Bool) → ((h : ℕ) → start h ≡ true → (h < at) × P h) → ((r : Row) → RowIn r (rows at k l) → P r.at) → ok_rows ws start (rows at k l) ≡ true → (r : Row) → RowIn r (rows at k l) → Checked P ws r
  unfolding rows ok_rows
  checked at zero [] start before all ok r m = absurd (Memᴰ.not-nil m)
  checked at (suc k) [] start before all ok r m = absurd (Memᴰ.not-nil m)
  checked at zero (w ∷ l) start before all ok r m =
      let first : Row = record { at = at; words = take (size_of w) (w ∷ l) } in
      ⊎_elim
      (λ (e : r ≡ first). record { start = start; earlier = rw e before; ok = rw e (and_left (ok_entry (heads_at start ws) first.words) (ok_rows ws (also at start) (rows (suc at) (pred (size_of w)) l)) ok) })
      (λ (i : RowIn r (rows (suc at) (pred (size_of w)) l)). checked (suc at) (pred (size_of w)) l (also at start) (one_more at start before (all first (Memᴰ.head refl))) (λ q j. all q (Memᴰ.tail j)) (and_right (ok_entry (heads_at start ws) first.words) (ok_rows ws (also at start) (rows (suc at) (pred (size_of w)) l)) ok) r i)
      (Memᴰ.cases_cons m)
  checked at (suc k) (w ∷ l) start before all ok r m =
      checked (suc at) k l start (λ h s. (omega (arith, (before h s).0), (before h s).1)) all ok r m

-- h is a handle of a store
pub Handle : List ℕ → ℕ → ℕ → Type 0
Handle ws used h = (r : Row) × (RowIn r (entries (take used ws))) × (r.at ≡ h)

-- in a well-formed store each entry was checked against starts that are earlier handles
pub well_checked : (ws : List ℕ) → well_formed ws ≡ true → (r : Row) → RowIn r (entries (take (get_or ws 0 0) ws)) → Checked (Handle ws (get_or ws 0 0)) ws r
unfolding entries nowhere Handle
well_checked ws h r m =
    checked (Handle ws (get_or ws 0 0)) ws 1 0 (slice 1 (get_or ws 0 0) ws) nowhere
    (λ k s. let z : ◌≡◌ {A = ℕ} 0 1 = cc in absurd (omega arith))
    (λ q j. (q, j, refl))
    (tests ws h).right r m
