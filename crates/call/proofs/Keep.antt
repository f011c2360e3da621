-- A call whose operation adds sound entries keeps the store well formed, its words, that no two entries are equal, and that the ends of
-- Ints are 64-bit words. Assumes nothing.
use mathlib.Core.Path.{◌≡◌, refl, sym, ap, ◌∙◌}
use mathlib.Core.Bool.{Bool, true, false, ◌&&◌}
use mathlib.Core.List.{List, [], ◌∷◌, ◌++◌, append-nil}
use Prim.Native.Nat.{ℕ, zero, suc, ◌+◌, ◌-◌, ◌≤◌, ◌<◌}
use native.Mathlib.Omega.{arith}
use borrow.Author.Tests.{ltb-false}
use lib.Dec.{eqb, ltb}
use lib.ListN.{length, take, drop, get_or, set, length-set, length-append, length-drop, get_or-append}
use lib.Seq.{take-take, take_at, drop_at, drop-drop, take-append-le, length-take-le, get_or-take, get_or-set_same, get_or-set_other, take-set-lt, drop-set-lt}
use Rattle.words.specs.Table.{rows, entries}
use Rattle.words.specs.Made.{Grown}
use Rattle.words.proofs.Walk.{take_slice}
use Rattle.bitset.specs.Bitset.{nowhere}
use Rattle.wellformed.specs.Form.{all_zero, ok_rows, well_formed, used_words}
use Rattle.wellformed.proofs.Before.{Tests, tests, passes}
use Rattle.call.specs.Call.{Reply, handle, refused, ◌when◌, ◌otherwise◌, stored, settle, call}
use Rattle.call.specs.Keep.{Keeps}
use Rattle.call.specs.Adds.{Sound, Adds}
use Rattle.call.proofs.Agree.{rows_same}
use Rattle.call.proofs.Sound.{in_used}

zeros_on : (l : List ℕ) (n : ℕ) → all_zero l ≡ true → all_zero (drop n l) ≡ true
unfolding all_zero
zeros_on l zero e = e
zeros_on [] (suc n) e = refl
zeros_on (x ∷ l) (suc n) e = go (eqb x 0) e (zeros_on l n)
  where
    go : (t : Bool) → (t && all_zero l) ≡ true → (all_zero l ≡ true → all_zero (drop n l) ≡ true) → all_zero (drop n l) ≡ true
    go true f ih = ih f
    go false f ih = let z : ◌≡◌ {A = ℕ} 0 1 = cc in absurd (omega arith)

-- the used words of a well-formed store are sound
pub well_sound : (ws : List ℕ) → well_formed ws ≡ true → Sound (used_words ws)
unfolding nowhere
well_sound ws ok =
    let t = tests ws ok in
    let n = length-take-le (get_or ws 0 0) ws t.within in
    let low : 1 ≤ length (used_words ws) = omega (arith, n, t.enough) in
    record {
      low = low;
      full = t.filled;
      right =
          rows_same (used_words ws) ws (entries (used_words ws)) nowhere (λ h z. none h z)
          (λ r m. get_or-take (get_or ws 0 0) ws r.at 0 (omega (arith, (in_used (used_words ws) low r m).1, n))) ∙ t.right;
    }
  where
    none : (h : ℕ) → nowhere h ≡ true → get_or (used_words ws) h 0 ≡ get_or ws h 0
    none h z = let no : ◌≡◌ {A = ℕ} 0 1 = cc in absurd (omega arith)

module _ (ws : List ℕ) (g : Grown) (ok : well_formed ws ≡ true) (a : Adds (used_words ws) g) (room : length g.words ≤ length ws) where
  abbrev n : ℕ
  n = length g.words

  abbrev l : List ℕ
  l = g.words ++ drop n ws

  t : Tests ws
  t = tests ws ok

  long : length (used_words ws) ≡ get_or ws 0 0
  long = length-take-le (get_or ws 0 0) ws t.within

  grown : get_or ws 0 0 ≤ n
  grown = omega (arith, ap length a.is, length-append (used_words ws) a.more, long)

  all_long : length l ≡ length ws
  all_long = length-append g.words (drop n ws) ∙ simp length-drop (omega (arith, room))

  count : get_or (stored g ws) 0 0 ≡ n
  count = get_or-set_same l 0 n 0 (omega (arith, all_long, t.least))

  -- a word past word 0
  pub word_in : (h : ℕ) → 1 ≤ h → h < n → get_or (stored g ws) h 0 ≡ get_or g.words h 0
  word_in h low high = get_or-set_other l 0 h n 0 (λ e. omega arith) ∙ get_or-append g.words (drop n ws) 0 h high

  used_are : take n (stored g ws) ≡ set g.words 0 n
  used_are = take-set-lt n l 0 n (omega (arith, grown, t.enough)) ∙ ap (λ (x : List ℕ). set x 0 n) (take_at g.words (drop n ws) n refl)

  used_same : drop 1 (take n (stored g ws)) ≡ drop 1 g.words
  used_same = ap (drop 1) used_are ∙ drop-set-lt 1 g.words 0 n (omega arith)

  pub entries_are : entries (take n (stored g ws)) ≡ entries g.words
  unfolding entries
  entries_are = ap (rows 1 0) used_same

  -- the used words, once word 0 counts them
  pub used_grown : used_words (stored g ws) ≡ set g.words 0 n
  used_grown = ap (λ (k : ℕ). take k (stored g ws)) count ∙ used_are

  front : take 94 l ≡ take 94 ws
  front =
      let h : 94 ≤ length (used_words ws) = omega (arith, long, t.enough) in
      let k : 94 ≤ n = omega (arith, grown, t.enough) in
      take-append-le 94 g.words (drop n ws) k ∙ rw a.is (take-append-le 94 (used_words ws) a.more h) ∙ take-take 94 (get_or ws 0 0) ws t.enough

  fresh_same : take 93 (drop 1 (stored g ws)) ≡ take 93 (drop 1 ws)
  fresh_same =
      ap (take 93) (drop-set-lt 1 l 0 n (omega arith))
      ∙ sym (take_slice 1 93 94 l (omega arith)) ∙ ap (λ (x : List ℕ). take 93 (drop 1 x)) front ∙ take_slice 1 93 94 ws (omega arith)

  zeros_behind : all_zero (drop n (stored g ws)) ≡ true
  zeros_behind =
      let used = get_or ws 0 0 in
      let q : used + (n - used) ≡ n = omega (arith, grown) in
      let d : drop n (stored g ws) ≡ drop (n - used) (drop used ws) =
      drop-set-lt n l 0 n (omega (arith, grown, t.enough)) ∙ drop_at g.words (drop n ws) n refl
      ∙ sym (drop-drop (n - used) used ws ∙ ap (λ (k : ℕ). drop k ws) q) in
      rw d (zeros_on (drop used ws) (n - used) t.zeros)

  right_again : ok_rows (stored g ws) nowhere (entries (take n (stored g ws))) ≡ true
  unfolding nowhere
  right_again =
      rw entries_are
      (rows_same (stored g ws) g.words (entries g.words) nowhere (λ h z. let no : ◌≡◌ {A = ℕ} 0 1 = cc in absurd (omega arith))
      (λ r m. let b = in_used g.words a.sound.low r m in word_in r.at b.0 b.1) ∙ a.sound.right)

  pub well_again : well_formed (stored g ws) ≡ true
  well_again =
      let len : length (stored g ws) ≡ length ws = length-set l 0 n ∙ all_long in
      passes (stored g ws) record {
        least = omega (arith, len, t.least);
        most = omega (arith, len, t.most);
        fresh = rw fresh_same t.fresh;
        enough = omega (arith, count, grown, t.enough);
        within = omega (arith, count, len, room);
        zeros = rw count zeros_behind;
        filled = rw (count, used_same) a.sound.full;
        right = rw count right_again;
      }

  pub stored_keeps : Keeps ws (record { reply = handle g.handle; words = stored g ws })
  stored_keeps = record {
    well = well_again;
    words = λ i low high.
        word_in i low (omega (arith, grown))
        ∙ rw a.is (get_or-append (used_words ws) a.more 0 i (omega (arith, long))) ∙ get_or-take (get_or ws 0 0) ws i 0 high;
    extra = a.extra;
    rows = rw count (entries_are ∙ a.rows);
    own = λ o. rw (count, entries_are) (a.own o);
    ends = λ e. rw (count, entries_are) (a.ends e);
  }

-- a call that is turned back
pub same_keeps : (ws : List ℕ) (r : Reply) → well_formed ws ≡ true → Keeps ws (record { reply = r; words = ws })
same_keeps ws r ok = record { well = ok; words = λ i low high. refl; extra = []; rows = sym (append-nil (entries (used_words ws))); own = λ o. o; ends = λ e. e }

-- every call
module _ (rows : List ℕ → ℕ) (op : List ℕ → Grown) (ws : List ℕ) (ok : well_formed ws ≡ true) where
  pub call_keeps : (Sound (used_words ws) → rows (used_words ws) ≡ 0 → Adds (used_words ws) (op (used_words ws))) → Keeps ws (call rows op ws)
  unfolding call
  call_keeps adds = rw ok (go (rows (used_words ws)) refl)
    where
      g : Grown
      g = op (used_words ws)

      fits : (b : Bool) → ltb (length ws) (length g.words) ≡ b → rows (used_words ws) ≡ 0 → Keeps ws (settle (12 when b) g ws)
      fits true e q = same_keeps ws (refused 12) ok
      fits false e q = stored_keeps ws g ok (adds (well_sound ws ok) q) (ltb-false (length ws) (length g.words) e)

      go : (k : ℕ) → rows (used_words ws) ≡ k → Keeps ws (settle (k otherwise 12 when ltb (length ws) (length g.words)) g ws)
      go zero q = fits (ltb (length ws) (length g.words)) refl q
      go (suc k) q = same_keeps ws (refused (suc k)) ok
