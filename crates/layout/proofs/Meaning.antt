-- The offsets are a layout: `laid_out`, for every list of logs, so for every rule of a field's width. Assumes nothing.
use mathlib.Core.Path.{◌≡◌, refl, sym, ap, ◌∙◌}
use mathlib.Core.Logic.{◌⊎◌, inl, inr}
use mathlib.Core.Bool.{Bool, true, false, cond}
use mathlib.Core.List.{List, [], ◌∷◌, ◌++◌, map, append-nil}
use Prim.Native.Nat.{ℕ, zero, suc, ◌+◌, ◌-◌, ◌*◌, ◌%◌, ◌^◌, ◌≤◌, ◌<◌}
use native.Mathlib.Omega.{arith}
use native.Mathlib.Nat.{zero-mul, add-mul}
use native.Mathlib.Decide.{ℕ_discrete, dec_lt}
use borrow.Author.Tests.{eq-eqb, ne_eqb, lt-ltb, le-ltb, eqb-true, ltb-true}
use lib.Dec.{eqb, ltb}
use lib.ListN.{length, take, get_or, length-append, length-map, get_or-append}
use lib.Seq.{append_snoc, get_or_at, take-take}
use lib.Pow.{pow-add, pow_pos, low}
use Rattle.layout.specs.Layout.{width, bytes_where, bytes, bytes_of, bytes_wider, offsets_from, offsets, round_up}
use Rattle.layout.specs.Lays.{log_at, width_at, place_at, end_of, Before, Lays}
use Rattle.layout.proofs.Bytes.{share, one_more, part, among}
use Rattle.layout.proofs.Pass.{wider_and_own, length_offsets}

-- ---- where a field lies

offset_of : (all before rest : List ℕ) (i : ℕ) → i < length rest → get_or (offsets_from all before rest) i 0 ≡ bytes_wider (get_or rest i 0) all + bytes_of (get_or rest i 0) (before ++ take i rest)
unfolding offsets_from
offset_of all before [] i h = absurd (omega arith)
offset_of all before (k ∷ rest) zero h = rw (append-nil before)
offset_of all before (k ∷ rest) (suc i) h =
    rw (← append_snoc before k (take i rest)) (offset_of all (before ++ (k ∷ [])) rest i (omega arith))

place_of : (logs : List ℕ) (i : ℕ) → i < length logs → place_at (offsets logs) i ≡ bytes_wider (log_at logs i) logs + bytes_of (log_at logs i) (take i logs)
unfolding offsets
place_of logs i h =
    let l : i < length (offsets_from logs [] logs) = omega (arith, length_offsets logs [] logs) in
    get_or-append (offsets_from logs [] logs) _ 0 i l ∙ offset_of logs [] logs i h

end_of_is : (logs : List ℕ) → end_of logs (offsets logs) ≡ round_up (bytes logs)
unfolding offsets
end_of_is logs = get_or_at (offsets_from logs [] logs) _ [] 0 (length logs) (length_offsets logs [] logs)

count_of : (logs : List ℕ) → length (offsets logs) ≡ length logs + 1
unfolding offsets
count_of logs = simp length-append (omega (arith, length_offsets logs [] logs))

-- ---- where it ends

after_of : (logs : List ℕ) (i : ℕ) → i < length logs → place_at (offsets logs) i + width_at logs i ≡ bytes_wider (log_at logs i) logs + bytes_of (log_at logs i) (take (i + 1) logs)
after_of logs i h =
    let k = log_at logs i in
    let w : share (eqb k) k ≡ width k = rw (eq-eqb k k refl) in
    omega (arith, place_of logs i h, one_more (eqb k) logs i h)

-- not behind the last field that is as wide
within_group : (logs : List ℕ) (i : ℕ) → i < length logs → place_at (offsets logs) i + width_at logs i ≤ bytes_wider (log_at logs i) logs + bytes_of (log_at logs i) logs
within_group logs i h = omega (arith, after_of logs i h, part (eqb (log_at logs i)) logs (i + 1))

within_all : (logs : List ℕ) (i : ℕ) → i < length logs → place_at (offsets logs) i + width_at logs i ≤ bytes logs
within_all logs i h = omega (arith, within_group logs i h, wider_and_own (log_at logs i) logs)

-- ---- the order

-- the fields of log k and the wider ones are among those wider than a smaller log
group_before : (j k : ℕ) → j < k → (logs : List ℕ) → bytes_wider k logs + bytes_of k logs ≤ bytes_wider j logs
group_before j k l = among (ltb k) (eqb k) (ltb j) (λ n. each n (ℕ_discrete k n) (dec_lt k n))
  where
    each : (n : ℕ) → Dec (k ≡ n) → Dec (k < n) → share (ltb k) n + share (eqb k) n ≤ share (ltb j) n
    each n (yes e) d = rw (eq-eqb k n e, le-ltb k n (omega arith), lt-ltb j n (omega arith)) (omega arith)
    each n (no e) (yes d) = rw (ne_eqb k n e, lt-ltb k n d, lt-ltb j n (omega arith)) (omega arith)
    each n (no e) (no d) = rw (ne_eqb k n e, le-ltb k n (omega arith)) (omega arith)

module _ (logs : List ℕ) (i j : ℕ) where
  wider_before : i < length logs → j < length logs → log_at logs j < log_at logs i → Before logs (offsets logs) i j
  wider_before h g l =
      omega (arith, within_group logs i h, group_before (log_at logs j) (log_at logs i) l logs, place_of logs j g)

  earlier_before : i < j → j < length logs → log_at logs i ≡ log_at logs j → Before logs (offsets logs) i j
  earlier_before l g e =
      let k = log_at logs i in
      let h : i < length logs = omega arith in
      let n : i + 1 ≤ j = omega arith in
      let p : bytes_of k (take (i + 1) logs) ≤ bytes_of k (take j logs) = rw (take-take (i + 1) j logs n) at (part (eqb k) (take j logs) (i + 1)) in
      let q : place_at (offsets logs) j ≡ bytes_wider k logs + bytes_of k (take j logs) = rw e (place_of logs j g) in
      omega (arith, after_of logs i h)

-- two fields are of different logs, or one comes first
either_before : (logs : List ℕ) (i j : ℕ) → i < length logs → j < length logs → (i ≡ j → ⊥) → Before logs (offsets logs) i j ⊎ Before logs (offsets logs) j i
either_before logs i j h g n = go (dec_lt (log_at logs j) (log_at logs i)) (dec_lt (log_at logs i) (log_at logs j)) (dec_lt i j)
  where
    go : Dec (log_at logs j < log_at logs i) → Dec (log_at logs i < log_at logs j) → Dec (i < j) → Before logs (offsets logs) i j ⊎ Before logs (offsets logs) j i
    go (yes l) m d = inl (wider_before logs i j h g l)
    go (no l) (yes m) d = inr (wider_before logs j i g h m)
    go (no l) (no m) (yes d) = inl (earlier_before logs i j d g (omega arith))
    go (no l) (no m) (no d) = inr (earlier_before logs j i (omega arith) h (omega arith))

-- ---- multiples of a width

abbrev Multiple : ℕ → ℕ → Type 0
Multiple k n = (m : ℕ) × (n ≡ m * 2 ^ k)

both : (k a b : ℕ) → Multiple k a → Multiple k b → Multiple k (a + b)
both k a b (m, e) (n, f) = (m + n, rw (e, f) (sym (add-mul m n (2 ^ k))))

-- the bytes of fields that are not narrower than log k
multiple : (k : ℕ) (p : ℕ → Bool) → ((n : ℕ) → p n ≡ true → k ≤ n) → (logs : List ℕ) → Multiple k (bytes_where p logs)
unfolding bytes_where
multiple k p wide [] = (0, sym (zero-mul (2 ^ k)))
multiple k p wide (n ∷ logs) = both k (share p n) (bytes_where p logs) (go (p n) refl) (multiple k p wide logs)
  where
    go : (t : Bool) → p n ≡ t → Multiple k (cond t (width n) 0)
    go true e = let h : n ≡ (n - k) + k = omega (arith, wide n e) in (2 ^ (n - k), ap (λ (x : ℕ). 2 ^ x) h ∙ pow-add 2 (n - k) k)
    go false e = (0, sym (zero-mul (2 ^ k)))

no_rest : (k n : ℕ) → Multiple k n → n % 2 ^ k ≡ 0
no_rest k n (m, e) = let h : n ≡ m * 2 ^ k + 0 = omega arith in rw h (low m k (pow_pos k))

at_multiple : (logs : List ℕ) (i : ℕ) → i < length logs → place_at (offsets logs) i % width_at logs i ≡ 0
at_multiple logs i h =
    let k = log_at logs i in
    rw (place_of logs i h)
    (no_rest k (bytes_wider k logs + bytes_of k (take i logs))
    (both k (bytes_wider k logs) (bytes_of k (take i logs))
    (multiple k (ltb k) (λ n e. omega (arith, ltb-true k n e)) logs)
    (multiple k (eqb k) (λ n e. omega (arith, eqb-true k n e)) (take i logs))))

-- ---- the theorem

pub laid_out : (logs : List ℕ) → Lays logs (offsets logs)
laid_out logs = record {
  each = count_of logs;
  inside = λ i h. omega (arith, within_all logs i h, end_of_is logs);
  aligned = at_multiple logs;
  apart = either_before logs;
  wider_first = wider_before logs;
  in_order = earlier_before logs;
  no_gap = within_all logs;
  rounded = let e = end_of_is logs in omega arith;
  padding = let e = end_of_is logs in (omega arith, omega arith);
}

-- for any rule that gives a field's log from its type: one argument for every layout
pub laid_out_by : {A : Type 0} (rule : A → ℕ) (types : List A) → Lays (map rule types) (offsets (map rule types))
laid_out_by rule types = laid_out (map rule types)

pub never_overlap : {A : Type 0} (rule : A → ℕ) (types : List A) (i j : ℕ) → i < length types → j < length types → (i ≡ j → ⊥)
    → let logs = map rule types in Before logs (offsets logs) i j ⊎ Before logs (offsets logs) j i
never_overlap rule types i j h g =
    let n = length-map types rule in
    (laid_out_by rule types).apart i j (rw n h) (rw n g)
