-- A store in a longer list, with zeros behind it. Assumes nothing.
use mathlib.Core.Path.{◌≡◌, refl, sym, ap, ◌∙◌}
use mathlib.Core.Bool.{true}
use mathlib.Core.List.{List, [], ◌∷◌, ◌++◌}
use Prim.Native.Nat.{ℕ, zero, suc, ◌+◌, ◌-◌, ◌≤◌, ◌<◌}
use native.Mathlib.Omega.{arith}
use lib.ListN.{length, take, drop, get_or, replicate, length-append, length-drop, length-replicate, take-append-drop, get_or-append}
use lib.Seq.{take_all, take_at, drop_at, drop-drop, get_or-take, take-append-le, drop-append-le, length-take-le}
use Rattle.words.specs.Table.{entries}
use Rattle.words.proofs.Alike.{eqs_eq}
use Rattle.words.proofs.Walk.{take_slice}
use Rattle.bitset.specs.Bitset.{nowhere}
use Rattle.wellformed.specs.Fresh.{fresh_words}
use Rattle.wellformed.specs.Form.{all_zero, well_formed, used_words, behind_fresh}
use Rattle.wellformed.proofs.Before.{Tests, tests, passes}
use Rattle.wellformed.proofs.Tail.{fresh_length_is, behind_length, behind_used}
use Rattle.call.proofs.Agree.{rows_same}
use Rattle.call.proofs.Zeros.{all_zero_is}
use Rattle.call.proofs.Sound.{in_used}

zeros : (n : ℕ) → all_zero (replicate n 0) ≡ true
unfolding all_zero
zeros zero = refl
zeros (suc n) = zeros n

module _ (ks : List ℕ) (j : ℕ) where
  used_longer : get_or (behind_fresh ks ++ replicate j 0) 0 0 ≡ length (behind_fresh ks)
  used_longer =
      let h : 0 < length (behind_fresh ks) = omega (arith, behind_length ks) in
      get_or-append (behind_fresh ks) (replicate j 0) 0 0 h ∙ behind_used ks ∙ sym (behind_length ks)

  -- the used words are those of the short list
  pub used_words_is : used_words (behind_fresh ks ++ replicate j 0) ≡ behind_fresh ks
  used_words_is = ap (λ (n : ℕ). take n (behind_fresh ks ++ replicate j 0)) used_longer ∙ take_at (behind_fresh ks) (replicate j 0) (length (behind_fresh ks)) refl

  pub length_longer : length (behind_fresh ks ++ replicate j 0) ≡ length (behind_fresh ks) + j
  length_longer = length-append (behind_fresh ks) (replicate j 0) ∙ ap (λ (n : ℕ). length (behind_fresh ks) + n) (length-replicate {A = ℕ} j 0)

  -- "of any allowed length"
  pub any_length : well_formed (behind_fresh ks) ≡ true → length (behind_fresh ks) + j ≤ 1048576 → well_formed (behind_fresh ks ++ replicate j 0) ≡ true
  unfolding nowhere
  any_length ok most =
      let ws = behind_fresh ks in
      let vs = ws ++ replicate j 0 in
      let t = tests ws ok in
      let n : get_or ws 0 0 ≡ length ws = behind_used ks ∙ sym (behind_length ks) in
      let all : take (get_or ws 0 0) ws ≡ ws = rw n (take_all (length ws) ws (omega arith)) in
      let low : 1 ≤ length ws = omega (arith, t.least) in
      let d : drop 1 vs ≡ drop 1 ws ++ replicate j 0 = drop-append-le 1 ws (replicate j 0) low in
      let p : 93 ≤ length (drop 1 ws) = omega (arith, length-drop 1 ws, t.least) in
      let f : take 93 (drop 1 vs) ≡ take 93 (drop 1 ws) = ap (take 93) d ∙ take-append-le 93 (drop 1 ws) (replicate j 0) p in
      passes vs record {
        least = omega (arith, length_longer, t.least);
        most = omega (arith, length_longer);
        fresh = rw f t.fresh;
        enough = omega (arith, used_longer, t.least);
        within = omega (arith, used_longer, length_longer);
        zeros = rw (used_longer, drop_at ws (replicate j 0) (length ws) refl) (zeros j);
        filled = rw used_words_is (rw all at t.filled);
        right =
            rw used_words_is
            (rows_same vs ws (entries ws) nowhere (λ h z. let no : ◌≡◌ {A = ℕ} 0 1 = cc in absurd (omega arith)) (λ r m. get_or-append ws (replicate j 0) 0 r.at (in_used ws low r m).1)
            ∙ rw all at t.right);
      }

pub later_behind : (ks : List ℕ) → drop 94 (behind_fresh ks) ≡ ks
unfolding behind_fresh
later_behind ks = drop_at fresh_words ks 93 fresh_length_is

-- the used words of a store are such a short list
pub used_behind : (ws : List ℕ) → well_formed ws ≡ true → behind_fresh (drop 94 (used_words ws)) ≡ used_words ws
unfolding behind_fresh
used_behind ws ok =
    let t = tests ws ok in
    let u = used_words ws in
    let n : length u ≡ get_or ws 0 0 = length-take-le (get_or ws 0 0) ws t.within in
    let c : get_or u 0 0 ≡ get_or ws 0 0 = get_or-take (get_or ws 0 0) ws 0 0 (omega (arith, t.enough)) in
    let f : take 93 (drop 1 u) ≡ fresh_words = take_slice 1 93 (get_or ws 0 0) ws (omega (arith, t.enough)) ∙ eqs_eq (take 93 (drop 1 ws)) fresh_words t.fresh in
    let d : drop 93 (drop 1 u) ≡ drop 94 u = drop-drop 93 1 u in
    let m : 94 + length (drop 94 u) ≡ get_or u 0 0 = omega (arith, length-drop 94 u, n, c, t.enough) in
    rw m (ap (λ (l : List ℕ). get_or u 0 0 ∷ l) (rw (← f, ← d) (take-append-drop 93 (drop 1 u))) ∙ first u (omega (arith, n, t.enough)))
  where
    first : (l : List ℕ) → 0 < length l → get_or l 0 0 ∷ drop 1 l ≡ l
    first [] h = absurd (omega arith)
    first (x ∷ l) h = refl

-- and what stands behind them is zeros
pub store_parts : (ws : List ℕ) → well_formed ws ≡ true → ws ≡ used_words ws ++ replicate (length ws - get_or ws 0 0) 0
store_parts ws ok =
    let t = tests ws ok in
    let n : length (drop (get_or ws 0 0) ws) ≡ length ws - get_or ws 0 0 = length-drop (get_or ws 0 0) ws in
    sym (take-append-drop (get_or ws 0 0) ws) ∙ ap (λ (l : List ℕ). used_words ws ++ l) (all_zero_is (drop (get_or ws 0 0) ws) t.zeros ∙ ap (λ (k : ℕ). replicate k 0) n)
