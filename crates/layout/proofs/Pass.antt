-- The two passes over the fields: what their loops know, at the start, after a turn, and at the end. Assumes nothing.
use mathlib.Core.Path.{◌≡◌, refl, sym, ap, ◌∙◌}
use mathlib.Core.Bool.{Bool, true, false, cond}
use mathlib.Core.List.{List, [], ◌∷◌, ◌++◌, append-nil}
use Prim.Native.Nat.{ℕ, zero, suc, ◌+◌, ◌-◌, ◌*◌, ◌%◌, ◌^◌, ◌≤◌, ◌<◌}
use native.Mathlib.Omega.{arith}
use native.Mathlib.Nat.{one-mul}
use native.Mathlib.Numerals.{add-one}
use native.Mathlib.Decide.{ℕ_discrete}
use borrow.Author.Tests.{eq-eqb, ne_eqb, le-ltb}
use lib.Dec.{eqb, ltb}
use lib.ListN.{length, take, drop, get_or, set, replicate, drop_of_length-le}
use lib.Seq.{length-take-le, set_at, take-suc, take_all, take-suc-set, drop-set-lt, drop-cons, drop-drop, append_snoc, get_or-drop, get_or-set_same, get_or-set_other}
use lib.Pow.{pow_mono, shl_exact}
use Rattle.layout.specs.Layout.{width, EightAtMost, bytes_where, bytes, bytes_of, bytes_wider, offsets_from, offsets, round_up}
use Rattle.layout.specs.Passes.{Added, Sums, Starts}
use Rattle.layout.proofs.Bytes.{share, one_more, part, among, all_fields, next_wider, few, none_wider}

-- ---- one field's bytes

pub shifted : (k : ℕ) → k ≤ 3 → (1 * 2 ^ k) % 18446744073709551616 ≡ 2 ^ k
shifted k h = shl_exact {a = 1} 1 k 64 (omega arith) (omega arith) ∙ one-mul (2 ^ k)

pub eight : (k : ℕ) → k ≤ 3 → (1 * 2 ^ k) % 18446744073709551616 ≤ 8
eight k h = rw (shifted k h) (pow_mono {i = k} {j = 3} h)

pub added : (sums : List ℕ) (k : ℕ) → length sums ≡ 4 → k ≤ 3 → Added k sums (set sums k (get_or sums k 0 + (1 * 2 ^ k) % 18446744073709551616))
added sums k four small j = rw (shifted k small) (go (ℕ_discrete j k))
  where
    go : Dec (j ≡ k) → get_or (set sums k (get_or sums k 0 + 2 ^ k)) j 0 ≡ get_or sums j 0 + cond (eqb j k) (2 ^ k) 0
    go (yes e) = rw (eq-eqb j k e, e) (get_or-set_same sums k (get_or sums k 0 + 2 ^ k) 0 (omega arith))
    go (no n) = rw (ne_eqb j k n, get_or-set_other sums k j (get_or sums k 0 + 2 ^ k) 0 n) (omega arith)

-- ---- the first pass: the bytes of each log

pub zeros : (logs sums : List ℕ) → sums ≡ replicate 4 0 → Sums (take 0 logs) sums
unfolding bytes_where
zeros logs sums e k = rw e (go k)
  where
    go : (k : ℕ) → get_or (0 ∷ 0 ∷ 0 ∷ 0 ∷ []) k 0 ≡ zero
    go zero = refl
    go (suc zero) = refl
    go (suc (suc zero)) = refl
    go (suc (suc (suc zero))) = refl
    go (suc (suc (suc (suc k)))) = refl

pub sums_fit : (logs sums : List ℕ) (i k : ℕ) → length logs ≤ 255 → EightAtMost logs → Sums (take i logs) sums → get_or sums k 0 ≤ 2040
sums_fit logs sums i k n small is = omega (arith, is k, part (eqb k) logs i, few (eqb k) logs small)

pub summed : (logs sums sums' : List ℕ) (i : ℕ) → i < length logs → Sums (take i logs) sums → Added (get_or logs i 0) sums sums' → Sums (take (i + 1) logs) sums'
summed logs sums sums' i h is add k = rw (one_more (eqb k) logs i h, add k, is k) refl

pub all_summed : (logs sums : List ℕ) (i : ℕ) → length logs ≤ i → Sums (take i logs) sums → Sums logs sums
all_summed logs sums i h is k = is k ∙ rw (take_all i logs h)

-- ---- the second pass: the offsets

-- the first i fields have their offsets, and the others their logs; `next` is where the next field of each log lies
pub record Placing (logs list next : List ℕ) (i : ℕ) : Type 0 where
  pub left : drop i list ≡ drop i logs
  pub done : take i list ++ offsets_from logs (take i logs) (drop i logs) ≡ offsets_from logs [] logs
  pub place : (k : ℕ) → k ≤ 3 → get_or next k 0 ≡ bytes_wider k logs + bytes_of k (take i logs)

pub begin : (logs next : List ℕ) → Starts logs next → Placing logs logs next 0
unfolding bytes_where
begin logs next start = record { left = refl; done = refl; place = λ k h. let e = start k h in omega arith }

pub log_left : (logs list next : List ℕ) (i : ℕ) → Placing logs list next i → get_or list i 0 ≡ get_or logs i 0
log_left logs list next i p =
    let e : i + 0 ≡ i = omega arith in
    ap (λ (n : ℕ). get_or list n 0) (sym e) ∙ sym (get_or-drop i list 0 0) ∙ ap (λ (l : List ℕ). get_or l 0 0) p.left ∙ get_or-drop i logs 0 0 ∙ ap (λ (n : ℕ). get_or logs n 0) e

pub log_small : (logs list next : List ℕ) (i : ℕ) → Placing logs list next i → EightAtMost logs → i < length logs → get_or list i 0 ≤ 3
log_small logs list next i p small h = rw (log_left logs list next i p) (small i h)

-- wider fields and those of log k are not more than all
pub wider_and_own : (k : ℕ) (logs : List ℕ) → bytes_wider k logs + bytes_of k logs ≤ bytes logs
wider_and_own k = among (ltb k) (eqb k) (λ n. true) (λ n. each n (ℕ_discrete k n))
  where
    each : (n : ℕ) → Dec (k ≡ n) → share (ltb k) n + share (eqb k) n ≤ width n
    each n (yes e) = rw (eq-eqb k n e, le-ltb k n (omega arith)) (omega arith)
    each n (no e) = rw (ne_eqb k n e) (go (ltb k n))
      where
        go : (t : Bool) → cond t (width n) 0 + 0 ≤ width n
        go true = omega arith
        go false = omega arith

pub places_fit : (logs list next : List ℕ) (i k : ℕ) → length logs ≤ 255 → EightAtMost logs → Placing logs list next i → k ≤ 3 → get_or next k 0 ≤ 2040
places_fit logs list next i k n small p h =
    omega (arith, p.place k h, part (eqb k) logs i, wider_and_own k logs, few (λ n. true) logs small)

pub placed : (logs list next next' : List ℕ) (i : ℕ) → i < length logs → length list ≡ length logs → EightAtMost logs → Placing logs list next i → Added (get_or list i 0) next next'
    → Placing logs (set list i (get_or next (get_or list i 0) 0)) next' (i + 1)
unfolding offsets_from
placed logs list next next' i h len small p add =
    let e = log_left logs list next i p in
    let l : i < length list = omega arith in
    let x = get_or next (get_or list i 0) 0 in
    let f : x ≡ bytes_wider (get_or logs i 0) logs + bytes_of (get_or logs i 0) (take i logs) = rw e (p.place (get_or logs i 0) (small i h)) in
    record {
      left = drop-set-lt (i + 1) list i x (omega arith) ∙ sym (drop-drop 1 i list) ∙ ap (λ (r : List ℕ). drop 1 r) p.left ∙ drop-drop 1 i logs;
      done =
          rw (add-one i, take-suc-set list i x l, append_snoc (take i list) x _, f, take-suc logs i 0 h) (rw (drop-cons logs i 0 h) at p.done);
      place = λ j q. rw (add j, p.place j q, one_more (eqb j) logs i h, e) (omega arith);
    }

pub all_placed : (logs list next : List ℕ) (i : ℕ) → length list ≤ i → length list ≡ length logs → Placing logs list next i → list ≡ offsets_from logs [] logs
unfolding offsets_from
all_placed logs list next i h len p = rw (take_all i list h, drop_of_length-le logs {i = i} (omega arith), append-nil list) at p.done

-- ---- both passes: where the fields of each log start, and where all end

module _ (logs sums : List ℕ) (small : EightAtMost logs) (is : Sums logs sums) where
  pub starts : Starts logs ((get_or sums 3 0 + get_or sums 2 0 + get_or sums 1 0) ∷ (get_or sums 3 0 + get_or sums 2 0) ∷ get_or sums 3 0 ∷ 0 ∷ [])
  starts zero h = omega (arith, is 1, is 2, is 3, next_wider 0 logs, next_wider 1 logs, next_wider 2 logs, none_wider logs small)
  starts (suc zero) h = omega (arith, is 2, is 3, next_wider 1 logs, next_wider 2 logs, none_wider logs small)
  starts (suc (suc zero)) h = omega (arith, is 3, next_wider 2 logs, none_wider logs small)
  starts (suc (suc (suc zero))) h = sym (none_wider logs small)
  starts (suc (suc (suc (suc k)))) h = absurd (omega arith)

  pub end_is : get_or sums 3 0 + get_or sums 2 0 + get_or sums 1 0 + get_or sums 0 0 ≡ bytes logs
  end_is =
      omega (arith, is 0, is 1, is 2, is 3, all_fields logs, next_wider 0 logs, next_wider 1 logs, next_wider 2 logs, none_wider logs small)

  pub end_fits : length logs ≤ 255 → get_or sums 3 0 + get_or sums 2 0 + get_or sums 1 0 + get_or sums 0 0 ≤ 2040
  end_fits n = omega (arith, end_is, few (λ k. true) logs small)

pub length_offsets : (all before rest : List ℕ) → length (offsets_from all before rest) ≡ length rest
unfolding offsets_from
length_offsets all before [] = refl
length_offsets all before (k ∷ rest) = ap suc (length_offsets all (before ++ (k ∷ [])) rest)

-- all words but the last
abbrev pub front : List ℕ → List ℕ
front list = take (length list - 1) list

pub front_length : (list : List ℕ) → length (front list) ≡ length list - 1
front_length list = length-take-le (length list - 1) list (omega arith)

pub few_fields : (list : List ℕ) → length list ≤ 256 → length (front list) ≤ 255
few_fields list h = omega (arith, front_length list)

pub ended : (list sums places : List ℕ) → 0 < length list → EightAtMost (front list) → Sums (front list) sums → places ≡ offsets_from (front list) [] (front list)
    → (r : ℕ) → r ≡ round_up (get_or sums 3 0 + get_or sums 2 0 + get_or sums 1 0 + get_or sums 0 0) → set (places ++ drop (length list - 1) list) (length list - 1) r ≡ offsets (front list)
unfolding offsets
ended list sums places some small is e r up =
    let n = length list - 1 in
    let m : n < length list = omega arith in
    let o : length list ≤ suc n = omega arith in
    let q : length places ≡ n = ap length e ∙ length_offsets (front list) [] (front list) ∙ front_length list in
    rw (up, end_is (front list) sums small is, drop-cons list n 0 m, drop_of_length-le list {i = suc n} o)
    (set_at places _ [] (round_up (bytes (front list))) n q ∙ ap (λ (p : List ℕ). p ++ (round_up (bytes (front list)) ∷ [])) e)
