-- Sums of the bytes of fields: of one field more, of a first part, of two tests in one. Assumes nothing.
use mathlib.Core.Path.{◌≡◌, refl}
use mathlib.Core.Bool.{Bool, true, false, cond}
use mathlib.Core.List.{List, [], ◌∷◌, ◌++◌}
use Prim.Native.Nat.{ℕ, zero, suc, ◌+◌, ◌*◌, ◌^◌, ◌≤◌, ◌<◌}
use native.Mathlib.Omega.{arith}
use native.Mathlib.Numerals.{add-one}
use native.Mathlib.Decide.{ℕ_discrete, dec_lt}
use borrow.Author.Tests.{eq-eqb, ne_eqb, lt-ltb, le-ltb}
use lib.Dec.{eqb, ltb}
use lib.ListN.{length, take, get_or}
use lib.Seq.{take-suc}
use lib.Pow.{pow_mono}
use Rattle.layout.specs.Layout.{width, EightAtMost, bytes_where, bytes, bytes_of, bytes_wider}

-- what a field adds
abbrev pub share : (ℕ → Bool) → ℕ → ℕ
share p k = cond (p k) (width k) 0

pub snoc : (p : ℕ → Bool) (a : List ℕ) (k : ℕ) → bytes_where p (a ++ (k ∷ [])) ≡ bytes_where p a + share p k
unfolding bytes_where
snoc p [] k = omega arith
snoc p (x ∷ a) k = let h = snoc p a k in omega arith

pub one_more : (p : ℕ → Bool) (logs : List ℕ) (i : ℕ) → i < length logs → bytes_where p (take (i + 1) logs) ≡ bytes_where p (take i logs) + share p (get_or logs i 0)
one_more p logs i h = rw (add-one, take-suc logs i 0 h) (snoc p (take i logs) (get_or logs i 0))

-- a first part has no more
pub part : (p : ℕ → Bool) (logs : List ℕ) (i : ℕ) → bytes_where p (take i logs) ≤ bytes_where p logs
unfolding bytes_where
part p [] zero = omega arith
part p [] (suc i) = omega arith
part p (k ∷ logs) zero = omega arith
part p (k ∷ logs) (suc i) = let h = part p logs i in omega arith

-- the fields of two tests are those of a third
pub joined : (p q r : ℕ → Bool) → ((k : ℕ) → share p k + share q k ≡ share r k) → (logs : List ℕ) → bytes_where p logs + bytes_where q logs ≡ bytes_where r logs
unfolding bytes_where
joined p q r e [] = refl
joined p q r e (k ∷ logs) = let h = joined p q r e logs in omega (arith, e k)

-- the fields of two tests are among those of a third
pub among : (p q r : ℕ → Bool) → ((k : ℕ) → share p k + share q k ≤ share r k) → (logs : List ℕ) → bytes_where p logs + bytes_where q logs ≤ bytes_where r logs
unfolding bytes_where
among p q r e [] = omega arith
among p q r e (k ∷ logs) = let h = among p q r e logs in omega (arith, e k)

-- fields of log 0 and wider ones are all
pub all_fields : (logs : List ℕ) → bytes_of 0 logs + bytes_wider 0 logs ≡ bytes logs
all_fields = joined (eqb 0) (ltb 0) (λ k. true) each
  where
    each : (k : ℕ) → share (eqb 0) k + share (ltb 0) k ≡ width k
    each zero = refl
    each (suc k) = rw (ne_eqb 0 (suc k) (omega arith), lt-ltb 0 (suc k) (omega arith)) (omega arith)

-- fields wider than log j are those of the next log and those wider than that
pub next_wider : (j : ℕ) (logs : List ℕ) → bytes_of (suc j) logs + bytes_wider (suc j) logs ≡ bytes_wider j logs
next_wider j = joined (eqb (suc j)) (ltb (suc j)) (ltb j) (λ k. each k (ℕ_discrete (suc j) k) (dec_lt j k))
  where
    each : (k : ℕ) → Dec (suc j ≡ k) → Dec (j < k) → share (eqb (suc j)) k + share (ltb (suc j)) k ≡ share (ltb j) k
    each k (yes e) (yes l) = rw (eq-eqb (suc j) k e, le-ltb (suc j) k (omega arith), lt-ltb j k l) (omega arith)
    each k (yes e) (no l) = absurd (omega arith)
    each k (no e) (yes l) = rw (ne_eqb (suc j) k e, lt-ltb (suc j) k (omega arith), lt-ltb j k l) (omega arith)
    each k (no e) (no l) = rw (ne_eqb (suc j) k e, le-ltb (suc j) k (omega arith), le-ltb j k (omega arith)) refl

-- no field takes more than 8 bytes
pub few : (p : ℕ → Bool) (logs : List ℕ) → EightAtMost logs → bytes_where p logs ≤ 8 * length logs
unfolding bytes_where
few p [] small = omega arith
few p (k ∷ logs) small =
    let h = few p logs (λ i l. small (suc i) (omega arith)) in
    let w : 2 ^ k ≤ 2 ^ 3 = pow_mono (small 0 (omega arith)) in
    go (p k) h w
  where
    go : (t : Bool) → bytes_where p logs ≤ 8 * length logs → 2 ^ k ≤ 8 → cond t (width k) 0 + bytes_where p logs ≤ 8 * suc (length logs)
    go true h w = omega arith
    go false h w = omega arith

-- none is wider than log 3
pub none_wider : (logs : List ℕ) → EightAtMost logs → bytes_wider 3 logs ≡ 0
unfolding bytes_where
none_wider [] small = refl
none_wider (k ∷ logs) small =
    let h = none_wider logs (λ i l. small (suc i) (omega arith)) in
    rw (le-ltb 3 k (small 0 (omega arith))) (omega arith)
