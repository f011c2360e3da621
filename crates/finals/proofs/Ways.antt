-- Each way through is_final answers what the definition gives, and every part that it asks stands before it. Assumes nothing.
use mathlib.Core.Path.{◌≡◌, sym, ◌∙◌}
use mathlib.Core.Bool.{Bool, true, false, not, ◌&&◌}
use mathlib.Core.List.{List, ◌∷◌}
use Prim.Native.Nat.{ℕ, zero, suc, ◌+◌, ◌-◌, ◌*◌, ◌/◌, ◌%◌, ◌≤◌, ◌<◌}
use native.Mathlib.Omega.{arith}
use borrow.Author.Tests.{eq-eqb, ne_eqb, not-true, not-false}
use lib.Dec.{eqb}
use lib.ListN.{get_or}
use Rattle.words.specs.Columns.{every, word, kind_on, count_on}
use Rattle.parts.specs.Parts.{Good, Part, All}
use Rattle.parts.proofs.Parts.{few, flat, of_struct, of_pointer, all_map}
use Rattle.parts.proofs.Good.{part_weak}
use Rattle.parts.proofs.Left.{every_zero, every_next}
use Rattle.finals.specs.Final.{all_final, is_final_within}
use Rattle.finals.specs.Known.{Finals}

-- the definition's step, for every number from the handle on
by_step : {u : List ℕ} {a : ℕ} (r : Bool) → ((k : ℕ) → a ≤ k → r ≡ is_final_within (suc k) u a) → Finals u a r
by_step {u} {a} r f = record { is = go }
  where
    go : (n : ℕ) → a < n → r ≡ is_final_within n u a
    go zero h = absurd (omega arith)
    go (suc k) h = f k (omega arith)

-- ---- the fields of a struct, after i of n: what is left answers for the whole

pub record Left (u : List ℕ) (a n i : ℕ) : Type 0 where
  pub parts : All (Part u a 33 1 11) (every 3 (n - i) (a + 3 + 3 * i) u)
  pub is : (k : ℕ) → a ≤ k → is_final_within (suc k) u a ≡ all_final (is_final_within k) u (every 3 (n - i) (a + 4 + 3 * i) u) (every 3 (n - i) (a + 3 + 3 * i) u)

module _ {u : List ℕ} {a n i : ℕ} (J : Left u a n i) where
  pub left_end : n ≤ i → Finals u a true
  unfolding all_final every
  left_end h = let z : n - i ≡ 0 = omega arith in by_step true (λ k l. sym (J.is k l ∙ rw z))

  -- the next field: its word v, and its type t
  module _ (more : i < n) (v : ℕ) (ev : v ≡ get_or u (a + 3 + 3 * i + 1) 0) where
    abbrev others : (k : ℕ) → Bool
    others k = all_final (is_final_within k) u (every 3 (n - (i + 1)) (a + 4 + 3 * (i + 1)) u) (every 3 (n - (i + 1)) (a + 3 + 3 * (i + 1)) u)

    unrolled : (k : ℕ) → a ≤ k → is_final_within (suc k) u a ≡ (eqb (v % 2) 1 && is_final_within k u (word u (a + 3 + 3 * i)) && others k)
    unfolding all_final
    unrolled k h =
        let q : a + 4 + 3 * i ≡ a + 3 + 3 * i + 1 = omega arith in
        let f : every 3 (n - i) (a + 4 + 3 * i) u ≡ v ∷ every 3 (n - (i + 1)) (a + 4 + 3 * (i + 1)) u = every_next 3 n (a + 4) i u more ∙ rw (q, ev) in
        J.is k h ∙ rw (f, every_next 3 n (a + 3) i u more)

    pub left_not_final : (v % 2 ≡ 1 → ⊥) → Finals u a false
    left_not_final e = by_step false (λ k h. sym (unrolled k h ∙ rw (ne_eqb (v % 2) 1 e)))

    module _ (t : ℕ) (et : t ≡ get_or u (a + 3 + 3 * i) 0) where
      split : Part u a 33 1 11 t × All (Part u a 33 1 11) (every 3 (n - (i + 1)) (a + 3 + 3 * (i + 1)) u)
      split = rw et (rw (every_next 3 n (a + 3) i u more) at J.parts)

      pub left_part : Part u a 33 1 11 t
      left_part = split.0

      -- what the walk of the type answered
      module _ (e : v % 2 ≡ 1) (r : Bool) (told : Finals u t r) where
        asked : (k : ℕ) → a ≤ k → is_final_within (suc k) u a ≡ (r && others k)
        asked k h = unrolled k h ∙ rw (eq-eqb (v % 2) 1 e, ← et, ← told.is k (omega (arith, split.0.earlier)))

        pub left_stop : not r ≡ true → Finals u a false
        left_stop f = by_step false (λ k h. sym (asked k h ∙ rw (not-true r f)))

        pub left_turn : not r ≡ false → Left u a n (i + 1)
        left_turn f = record { parts = split.1; is = λ k h. asked k h ∙ rw (not-false r f) }

-- ---- the kinds

module _ {u : List ℕ} {used a : ℕ} (g : Good u) (p : Part u used 33 1 11 a) (x : ℕ) (ex : x ≡ get_or u a 0) where
  pub final_other : (x % 256 ≡ 10 → ⊥) → (x % 256 ≡ 8 → ⊥) → Finals u a true
  unfolding is_final_within
  final_other m s = by_step true (λ k h. rw (← ex, ne_eqb (x % 256) 10 m, ne_eqb (x % 256) 8 s))

  -- a pointer
  module _ (e : x % 256 ≡ 10) (to : ℕ) (et : to ≡ get_or u (a + 1) 0) where
    pub pointer_part : Part u a 33 1 11 to
    pointer_part =
        let k : kind_on u a ≡ 10 = rw (← ex) e in
        let q = (of_pointer g.sound p k).to in
        rw et (record { entry = q.entry; earlier = q.earlier; least = omega (arith, q.least); most = omega (arith, q.most); shallow = omega (arith, q.shallow, flat g.sound p) })

    pub final_pointer : (r : Bool) → Finals u to r → Finals u a r
    unfolding is_final_within
    final_pointer r told = by_step r (λ k h. rw (← ex, eq-eqb (x % 256) 10 e, ← et) (told.is k (omega (arith, pointer_part.earlier))))

  -- a struct
  pub struct_few : x / 65536 ≤ 255
  struct_few = rw ex (few g.sound p)

  pub struct_begin : (x % 256 ≡ 10 → ⊥) → x % 256 ≡ 8 → Left u a (x / 65536) 0
  unfolding is_final_within
  struct_begin m e =
      let n = x / 65536 in
      let ts = every_zero 3 n (a + 3) u in
      let k : kind_on u a ≡ 8 = rw (← ex) e in
      let all : All (Part u a 33 1 11) (every 3 (count_on u a) (a + 3) u) = all_map (λ h q. part_weak a 33 (omega arith) (omega (arith, flat g.sound p)) q) (every 3 (count_on u a) (a + 3) u) (of_struct g.sound p k).types in
      record { parts = rw (ts, ex) all; is = λ k h. rw (ts, every_zero 3 n (a + 4) u, ← ex, ne_eqb (x % 256) 10 m, eq-eqb (x % 256) 8 e) }
