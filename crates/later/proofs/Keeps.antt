-- What a call keeps makes the store that it leaves a later one: a memory stays right from call to call. Assumes nothing.
use mathlib.Core.Path.{◌≡◌, refl, sym, ap, ◌∙◌}
use mathlib.Core.Bool.{true}
use mathlib.Core.List.{List, [], ◌∷◌, ◌++◌, append-nil}
use Prim.Native.Nat.{ℕ, zero, suc, pred, ◌+◌, ◌≤◌}
use native.Mathlib.Omega.{arith}
use lib.ListN.{length, drop, get_or, set, length-drop, length-set}
use lib.Seq.{length-take-le, get_or-take, get_or-set_other, drop-set-lt}
use Rattle.words.specs.Words.{size_of, fills}
use Rattle.words.specs.Table.{Row, rows, entries}
use Rattle.words.proofs.Walk.{size_pos, long as fills-long}
use Rattle.wellformed.specs.Form.{well_formed, used_words}
use Rattle.wellformed.proofs.Before.{tests}
use Rattle.call.specs.Call.{Outcome}
use Rattle.call.specs.Keep.{Keeps}
use Rattle.call.specs.Adds.{Sound}
use Rattle.call.proofs.Keep.{well_sound}
use Rattle.later.specs.Later.{Later}

-- the words of some entries
total : List Row → ℕ
total [] = 0
total (r ∷ rs) = length r.words + total rs

total_append : (rs ss : List Row) → total (rs ++ ss) ≡ total rs + total ss
unfolding total
total_append [] ss = omega arith
total_append (r ∷ rs) ss = omega (arith, total_append rs ss)

-- entries that fill a list have as many words as it
rows_total : (at k : ℕ) (l : List ℕ) → fills k l ≡ true → k + total (rows at k l) ≡ length l
unfolding fills rows total
rows_total at zero [] f = refl
rows_total at (suc k) [] f = let z : ◌≡◌ {A = ℕ} 0 1 = cc in absurd (omega arith)
rows_total at zero (w ∷ l) f =
    let ih = rows_total (suc at) (pred (size_of w)) l f in
    let s : size_of w ≤ suc (length l) = omega (arith, fills-long (pred (size_of w)) l f, size_pos w) in
    omega (arith, ih, length-take-le (size_of w) (w ∷ l) s, size_pos w)
rows_total at (suc k) (w ∷ l) f = omega (arith, rows_total (suc at) k l f)

-- more entries, more words
more_words : (u v : List ℕ) (extra : List Row) → Sound u → Sound v → entries v ≡ entries u ++ extra → length u ≤ length v
unfolding entries
more_words u v extra s t e =
    let a = rows_total 1 0 (drop 1 u) s.full in
    let b = rows_total 1 0 (drop 1 v) t.full in
    let c : total (rows 1 0 (drop 1 v)) ≡ total (rows 1 0 (drop 1 u)) + total extra = ap total e ∙ total_append (rows 1 0 (drop 1 u)) extra in
    omega (arith, a, b, c, length-drop 1 u, length-drop 1 v, s.low, t.low)

pub later_keeps : (ws : List ℕ) (o : Outcome) → well_formed ws ≡ true → Keeps ws o → Later (used_words ws) (used_words o.words)
later_keeps ws o ok k =
    let vs = o.words in
    let n : length (used_words ws) ≡ get_or ws 0 0 = length-take-le (get_or ws 0 0) ws (tests ws ok).within in
    let m : length (used_words vs) ≡ get_or vs 0 0 = length-take-le (get_or vs 0 0) vs (tests vs k.well).within in
    let l = more_words (used_words ws) (used_words vs) k.extra (well_sound ws ok) (well_sound vs k.well) k.rows in
    record {
      long = l;
      words = λ i low high. get_or-take (get_or vs 0 0) vs i 0 (omega arith) ∙ k.words i low (omega arith) ∙ sym (get_or-take (get_or ws 0 0) ws i 0 (omega arith));
      extra = k.extra;
      rows = k.rows;
    }

-- word 0 is not read
pub later_set : (u : List ℕ) (x : ℕ) → Later u (set u 0 x)
unfolding entries
later_set u x = record {
  long = omega (arith, length-set u 0 x);
  words = λ i low high. get_or-set_other u 0 i x 0 (λ z. omega arith);
  extra = [];
  rows = ap (rows 1 0) (drop-set-lt 1 u 0 x (omega arith)) ∙ sym (append-nil (rows 1 0 (drop 1 u)));
}
