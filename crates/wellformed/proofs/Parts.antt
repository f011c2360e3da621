-- What each way through the functions on an entry's parts gives. Assumes nothing.
use mathlib.Core.Path.{◌≡◌, refl, sym, ap, ◌∙◌}
use mathlib.Core.Bool.{Bool, true, false, not, cond, ◌&&◌}
use mathlib.Core.List.{List}
use Rattle.std.proofs.Common.{Option, Some, None}
use Prim.Native.Nat.{ℕ, suc, ◌+◌, ◌-◌, ◌*◌, ◌≤◌, ◌<◌, ◌%◌, ◌/◌, max}
use native.Mathlib.Omega.{arith}
use native.Mathlib.Numerals.{add-one}
use native.Mathlib.Decide.{ℕ_discrete}
use borrow.Author.Tests.{eq-eqb, ne_eqb, le-leb, lt-leb, not-true, not-false}
use lib.Dec.{eqb}
use lib.ListN.{length, drop, get_or, drop_of_length-le}
use lib.Seq.{drop-cons}
use Rattle.words.specs.Words.{depth_of}
use Rattle.source.specs.Source.{stored}
use Rattle.source.proofs.Both.{length_stored, in_words}
use Rattle.bitset.specs.Bitset.{bit_at}
use Rattle.wellformed.specs.Entry.{no_head, kind_in, kind_at, is_name, is_type, is_alias_final, all, deepest}
use Rattle.words.specs.Columns.{every}
use Rattle.wellformed.specs.Form.{heads_at}
use Rattle.wellformed.specs.Scan.{head_depth, part_depth, field_depth, parts_depth, fields_depth, one_over, Marks}

-- ---- head_at

module _ (ws bits : List ℕ) (h : ℕ) where
  pub marked_in : Marks ws bits → (k : Bool) → k ≡ bit_at bits h → not k ≡ false → h < length ws
  marked_in m k is y = m.inside h (sym is ∙ not-false k y)

  pub unmarked : (k : Bool) → k ≡ bit_at bits h → not k ≡ true → no_head ≡ heads_at (bit_at bits) ws h
  unfolding heads_at
  unmarked k is n = rw (sym is ∙ not-true k n)

  pub marked_head : (k : Bool) → k ≡ bit_at bits h → not k ≡ false → (r : ℕ) → r ≡ get_or ws h 0 → r ≡ heads_at (bit_at bits) ws h
  unfolding heads_at
  marked_head k is y r it = it ∙ rw (sym is ∙ not-false k y)

-- the same where the word stands in the first source
module _ (ws bs bits : List ℕ) (h : ℕ) (more : h < length ws) where
  pub bit_room : Marks (stored ws bs) bits → h / 64 < length bits
  bit_room m = omega (arith, m.room, length_stored ws bs)

  pub near_head : (k : Bool) → k ≡ bit_at bits h → not k ≡ false → get_or ws h 0 ≡ heads_at (bit_at bits) (stored ws bs) h
  near_head k is y = marked_head (stored ws bs) bits h k is y (get_or ws h 0) (in_words ws bs h more)

-- ---- part

module _ (low high g : ℕ) where
  pub too_low : g % 256 < low → None ≡ head_depth (kind_in low high) g
  unfolding head_depth
  too_low l = rw (lt-leb _ _ l)

  module _ (l : low ≤ g % 256) where
    pub too_high : high < g % 256 → None ≡ head_depth (kind_in low high) g
    unfolding head_depth
    too_high k = rw (le-leb _ _ l, lt-leb _ _ k)

    pub right_kind : g % 256 ≤ high → Some (g / 256 % 256) ≡ head_depth (kind_in low high) g
    unfolding head_depth
    right_kind k = rw (le-leb _ _ l, le-leb _ _ k)

-- of the head that stands at a handle
pub by_head : (p : ℕ → Bool) (g k : ℕ) (r : Option ℕ) → g ≡ k → r ≡ head_depth p g → r ≡ head_depth p k
by_head p g k r is it = it ∙ ap (head_depth p) is

-- what an answer of `part` says
module _ (heads : ℕ → ℕ) (p : ℕ → Bool) (h : ℕ) (d : Option ℕ) (is : d ≡ part_depth heads p h) where
  pub part_bad : d ≡ None → kind_at heads p h ≡ false
  unfolding head_depth
  part_bad b = go (kind_at heads p h) refl (sym is ∙ b)
    where
      go : (t : Bool) → kind_at heads p h ≡ t → cond t (Some (depth_of (heads h))) None ≡ None → t ≡ false
      go true e q = let z : ◌≡◌ {A = ℕ} 0 1 = cc in absurd (omega arith)
      go false e q = refl

  pub part_of : (x : ℕ) → d ≡ Some x → (kind_at heads p h ≡ true) × (x ≡ depth_of (heads h))
  unfolding head_depth
  part_of x o = go (kind_at heads p h) refl (sym is ∙ o)
    where
      go : (t : Bool) → kind_at heads p h ≡ t → cond t (Some (depth_of (heads h))) None ≡ Some x → (t ≡ true) × (x ≡ depth_of (heads h))
      go true e q = (refl, cc)
      go false e q = let z : ◌≡◌ {A = ℕ} 0 1 = cc in absurd (omega arith)

-- ---- elements

module _ (heads : ℕ → ℕ) (parts : List ℕ) (d i : ℕ) (whole : Option ℕ) (left : whole ≡ parts_depth heads d (drop i parts)) where
  pub no_part : length parts ≤ i → Some d ≡ whole
  unfolding parts_depth all deepest
  no_part h = let m : max d 0 ≡ d = omega arith in sym (left ∙ rw (drop_of_length-le parts h, m))

  module _ (more : i < length parts) (p : Option ℕ) (is : p ≡ part_depth heads is_type (get_or parts i 0)) where
    pub bad_part : p ≡ None → None ≡ whole
    unfolding parts_depth all
    bad_part b = sym (left ∙ rw (drop-cons parts i 0 more, part_bad heads is_type (get_or parts i 0) p is b))

    pub good_part : (x y : ℕ) → p ≡ Some x → y ≡ max d x → whole ≡ parts_depth heads y (drop (i + 1) parts)
    unfolding parts_depth all deepest
    good_part x y o e =
        let q = part_of heads is_type (get_or parts i 0) p is x o in
        let D = deepest heads (drop (suc i) parts) in
        let m : max d (max (depth_of (heads (get_or parts i 0))) D) ≡ max y D = omega (arith, q.1) in
        left ∙ rw (drop-cons parts i 0 more, q.0, m, add-one)

-- ---- fields

-- what an answer of `field` says
module _ (name flags type : ℕ) (d : Option ℕ) (is : d ≡ field_depth name flags type) where
  pub field_bad : d ≡ None → (eqb (name % 256) 0 && is_alias_final flags && kind_in 1 11 (type % 256)) ≡ false
  unfolding field_depth head_depth
  field_bad b = go (eqb (name % 256) 0 && is_alias_final flags) (kind_in 1 11 (type % 256)) (sym is ∙ b)
    where
      go : (s t : Bool) → cond s (cond t (Some (depth_of type)) None) None ≡ None → (s && t) ≡ false
      go true true q = let z : ◌≡◌ {A = ℕ} 0 1 = cc in absurd (omega arith)
      go true false q = refl
      go false t q = refl

  pub field_of : (x : ℕ) → d ≡ Some x → (eqb (name % 256) 0 ≡ true) × (is_alias_final flags ≡ true) × (kind_in 1 11 (type % 256) ≡ true) × (x ≡ depth_of type)
  unfolding field_depth head_depth
  field_of x o = go (eqb (name % 256) 0) (is_alias_final flags) (kind_in 1 11 (type % 256)) (sym is ∙ o)
    where
      go : (s r t : Bool) → cond (s && r) (cond t (Some (depth_of type)) None) None ≡ Some x → (s ≡ true) × (r ≡ true) × (t ≡ true) × (x ≡ depth_of type)
      go true true true q = (refl, refl, refl, cc)
      go true true false q = let z : ◌≡◌ {A = ℕ} 0 1 = cc in absurd (omega arith)
      go true false t q = let z : ◌≡◌ {A = ℕ} 0 1 = cc in absurd (omega arith)
      go false r t q = let z : ◌≡◌ {A = ℕ} 0 1 = cc in absurd (omega arith)

-- one field in front of the others
merge : (n a t ns vs ts : Bool) (x y : ℕ) → x ≡ y
    → cond ((n && ns) && (a && vs)) (cond (t && ts) (Some x) None) None ≡ cond (n && a && t) (cond (ns && vs) (cond ts (Some y) None) None) None
merge false a t ns vs ts x y e = refl
merge true false t true vs ts x y e = refl
merge true false t false vs ts x y e = refl
merge true true false true true ts x y e = refl
merge true true false true false ts x y e = refl
merge true true false false vs ts x y e = refl
merge true true true ns vs ts x y e = rw e

module _ (heads : ℕ → ℕ) (d j p : ℕ) (e : List ℕ) where
  pub field_first : fields_depth heads d (suc j) p e
      ≡ cond (kind_at heads is_name (get_or e p 0) && is_alias_final (get_or e (p + 2) 0) && kind_at heads is_type (get_or e (p + 1) 0)) (fields_depth heads (max d (depth_of (heads (get_or e (p + 1) 0)))) j (p + 3) e) None
  unfolding fields_depth parts_depth every all deepest
  field_first =
      let a : p + 2 + 3 ≡ p + 3 + 2 = omega arith in
      let t : p + 1 + 3 ≡ p + 3 + 1 = omega arith in
      let x = depth_of (heads (get_or e (p + 1) 0)) in
      let D = deepest heads (every 3 j (p + 3 + 1) e) in
      let m : max d (max x D) ≡ max (max d x) D = omega arith in
      rw (a, t) (merge (kind_at heads is_name (get_or e p 0)) (is_alias_final (get_or e (p + 2) 0)) (kind_at heads is_type (get_or e (p + 1) 0)) _ _ _ _ _ m)

-- at field j of n, of which the first stands at 2
module _ (heads : ℕ → ℕ) (e : List ℕ) (d n j : ℕ) (whole : Option ℕ) (left : whole ≡ fields_depth heads d (n - j) (2 + 3 * j) e) where
  pub no_field : n ≤ j → Some d ≡ whole
  unfolding fields_depth parts_depth every all deepest
  no_field h =
      let z : n - j ≡ 0 = omega arith in
      let m : max d 0 ≡ d = omega arith in
      sym (left ∙ rw (z, m))

  module _ (more : j < n) (name type : ℕ) (in_ : name ≡ heads (get_or e (2 + 3 * j) 0)) (it : type ≡ heads (get_or e (2 + 3 * j + 1) 0)) (t : Option ℕ) (is : t ≡ field_depth name (get_or e (2 + 3 * j + 2) 0) type) where
    step : whole ≡ cond (eqb (name % 256) 0 && is_alias_final (get_or e (2 + 3 * j + 2) 0) && kind_in 1 11 (type % 256)) (fields_depth heads (max d (depth_of type)) (n - (j + 1)) (2 + 3 * (j + 1)) e) None
    step =
        let q : n - j ≡ suc (n - (j + 1)) = omega arith in
        let r : 2 + 3 * j + 3 ≡ 2 + 3 * (j + 1) = omega arith in
        left ∙ ap (λ (k : ℕ). fields_depth heads d k (2 + 3 * j) e) q ∙ field_first heads d (n - (j + 1)) (2 + 3 * j) e ∙ rw (in_, it, r)

    pub bad_field : t ≡ None → None ≡ whole
    bad_field b = sym (step ∙ rw (field_bad name (get_or e (2 + 3 * j + 2) 0) type t is b))

    pub good_field : (x y : ℕ) → t ≡ Some x → y ≡ max d x → whole ≡ fields_depth heads y (n - (j + 1)) (2 + 3 * (j + 1)) e
    good_field x y o q =
        let f = field_of name (get_or e (2 + 3 * j + 2) 0) type t is x o in
        step ∙ rw (f.0, f.1, f.2, q, f.3)

-- ---- over

module _ (depth : ℕ) (d : Option ℕ) where
  pub not_zero : (x : ℕ) → d ≡ Some x → depth ≡ 0 → false ≡ one_over depth d
  unfolding one_over
  not_zero x is z = rw (is, z) (sym (ne_eqb 0 (1 + x) (λ e. omega arith)))

  pub one_over_is : (x : ℕ) → d ≡ Some x → (depth ≡ 0 → ⊥) → eqb (depth - 1) x ≡ one_over depth d
  unfolding one_over
  one_over_is x is nz = rw is (go (ℕ_discrete depth (1 + x)))
    where
      go : Dec (depth ≡ 1 + x) → eqb (depth - 1) x ≡ eqb depth (1 + x)
      go (yes e) = eq-eqb (depth - 1) x (omega arith) ∙ sym (eq-eqb depth (1 + x) e)
      go (no n) = ne_eqb (depth - 1) x (λ e. n (omega arith)) ∙ sym (ne_eqb depth (1 + x) n)

  pub over_bad : d ≡ None → false ≡ one_over depth d
  unfolding one_over
  over_bad is = rw is
