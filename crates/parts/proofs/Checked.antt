-- What row 1 has tested of an entry of the used words. Assumes nothing.
use mathlib.Core.Path.{◌≡◌, refl}
use mathlib.Core.Bool.{Bool, true, false, cond, ◌&&◌}
use mathlib.Core.List.{List, [], ◌∷◌}
use Prim.Native.Nat.{ℕ, ◌≤◌, ◌<◌}
use native.Mathlib.Omega.{arith}
use borrow.Author.Tests.{leb-true, eqb-true}
use lib.Dec.{eqb, leb}
use lib.ListN.{drop}
use Rattle.words.specs.Kinds.{last_kind}
use Rattle.words.specs.Words.{kind_of, depth_of}
use Rattle.words.specs.Table.{Row, entries, starts, RowIn}
use Rattle.bitset.specs.Bitset.{nowhere}
use Rattle.wellformed.specs.Entry.{kind, depth, count, most_of, deepest_allowed, names_in, types_in, is_name, takes, kind_in, kind_at, all, deepest, depth_for, values_ok, ok_entry}
use Rattle.wellformed.specs.Form.{heads_at}
use Rattle.wellformed.proofs.Bools.{and_left, and_right}
use Rattle.wellformed.proofs.Before.{Checked, checked}
use Rattle.words.specs.Columns.{word}
use Rattle.call.specs.Adds.{Sound}
use Rattle.parts.specs.Parts.{Part, NameAt, All}
use Rattle.words.proofs.Handles.{row_starts}

-- ---- the tests, one by one

pub record Tested (heads : ℕ → ℕ) (e : List ℕ) : Type 0 where
  pub few : count e ≤ most_of (kind e)
  pub named : all (kind_at heads is_name) (names_in e) ≡ true
  pub typed : all (kind_at heads (takes (kind e))) (types_in e) ≡ true
  pub deep : depth e ≡ depth_for heads e
  pub flat : depth e ≤ 32
  pub values : values_ok e ≡ true

-- seven tests that hold together, each
each : (a b c d e f g : Bool) → (a && b && c && d && e && f && g) ≡ true → (b ≡ true) × (c ≡ true) × (d ≡ true) × (e ≡ true) × (f ≡ true) × (g ≡ true)
each a b c d e f g q =
    let q₆ = and_left (a && b && c && d && e && f) g q in
    let q₅ = and_left (a && b && c && d && e) f q₆ in
    let q₄ = and_left (a && b && c && d) e q₅ in
    let q₃ = and_left (a && b && c) d q₄ in
    let q₂ = and_left (a && b) c q₃ in
    (and_right a b q₂, and_right (a && b) c q₃, and_right (a && b && c) d q₄, and_right (a && b && c && d) e q₅, and_right (a && b && c && d && e) f q₆, and_right (a && b && c && d && e && f) g q)

pub tested : (heads : ℕ → ℕ) (e : List ℕ) → ok_entry heads e ≡ true → Tested heads e
unfolding ok_entry
tested heads e ok =
    let t =
    each (leb (kind e) last_kind) (leb (count e) (most_of (kind e))) (all (kind_at heads is_name) (names_in e)) (all (kind_at heads (takes (kind e))) (types_in e))
    (eqb (depth e) (depth_for heads e)) (leb (depth e) deepest_allowed) (values_ok e) ok in
    record {
      few = leb-true _ _ t.0;
      named = t.1;
      typed = t.2;
      deep = eqb-true _ _ t.3;
      flat = leb-true _ _ t.4;
      values = t.5;
    }

-- ---- the parts

module _ (start : ℕ → Bool) (u : List ℕ) where
  -- a handle whose head has a kind of the table is a start, and the head is its word
  there : (h : ℕ) → kind_of (heads_at start u h) < 255 → (start h ≡ true) × (heads_at start u h ≡ word u h)
  unfolding heads_at
  there h = go (start h) refl
    where
      go : (t : Bool) → start h ≡ t → kind_of (cond t (word u h) 255) < 255 → (t ≡ true) × (cond t (word u h) 255 ≡ word u h)
      go true e l = (refl, refl)
      go false e l = absurd (omega arith)

  module _ (low high top d : ℕ) (short : high < 255) (earlier : (h : ℕ) → start h ≡ true → (h < top) × (starts u h ≡ true)) where
    part : (h : ℕ) → kind_at (heads_at start u) (kind_in low high) h ≡ true → depth_of (heads_at start u h) < d → Part u top d low high h
    part h k l =
        let head = heads_at start u h in
        let least = leb-true low (kind_of head) (and_left (leb low (kind_of head)) (leb (kind_of head) high) k) in
        let most = leb-true (kind_of head) high (and_right (leb low (kind_of head)) (leb (kind_of head) high) k) in
        let t = there h (omega arith) in
        let e = earlier h t.0 in
        record { entry = e.1; earlier = e.0; least = rw t.1 at least; most = rw t.1 at most; shallow = rw t.1 at l }

    pub parts : (hs : List ℕ) → all (kind_at (heads_at start u) (kind_in low high)) hs ≡ true → deepest (heads_at start u) hs < d → All (Part u top d low high) hs
    unfolding all deepest
    parts [] k l = tt
    parts (h ∷ hs) k l =
        let p = kind_at (heads_at start u) (kind_in low high) in
        (part h (and_left (p h) (all p hs) k) (omega arith), parts hs (and_right (p h) (all p hs) k) (omega arith))

  -- names are of kind 0
  module _ (top : ℕ) (earlier : (h : ℕ) → start h ≡ true → (h < top) × (starts u h ≡ true)) where
    name : (h : ℕ) → kind_at (heads_at start u) is_name h ≡ true → NameAt u top h
    name h k =
        let z = eqb-true (kind_of (heads_at start u h)) 0 k in
        let t = there h (omega arith) in
        let e = earlier h t.0 in
        record { entry = e.1; earlier = e.0; kind = rw t.1 at z }

    pub names : (hs : List ℕ) → all (kind_at (heads_at start u) is_name) hs ≡ true → All (NameAt u top) hs
    unfolding all
    names [] k = tt
    names (h ∷ hs) k =
        let p = kind_at (heads_at start u) is_name in
        (name h (and_left (p h) (all p hs) k), names hs (and_right (p h) (all p hs) k))

-- ---- an entry of sound used words

pub row_checked : (u : List ℕ) → Sound u → (r : Row) → RowIn r (entries u) → Checked (λ h. starts u h ≡ true) u r
unfolding entries nowhere
row_checked u s r m =
    checked (λ h. starts u h ≡ true) u 1 0 (drop 1 u) nowhere
    (λ h z. let e : ◌≡◌ {A = ℕ} 0 1 = cc in absurd (omega arith))
    (λ q j. row_starts (entries u) q j)
    s.right r m
