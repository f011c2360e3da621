-- The first match: what a loop that looks for it knows. Assumes nothing.
use mathlib.Core.Path.{◌≡◌, sym, ◌∙◌}
use mathlib.Core.Bool.{Bool, true, false, cond}
use mathlib.Core.List.{List}
use Prim.Native.Nat.{ℕ, suc, ◌+◌, ◌-◌, ◌*◌, ◌/◌, ◌≤◌, ◌<◌}
use native.Mathlib.Omega.{arith}
use native.Mathlib.Numerals.{add-one}
use borrow.Author.Tests.{eq-eqb, ne_eqb, ltb-true}
use lib.Dec.{eqb, ltb}
use Rattle.words.specs.Columns.{every, word, count_on, field_names_on}
use Rattle.wellformed.specs.Entry.{all}
use Rattle.makers.proofs.Fields.{every_first, all_at}
use Rattle.meet_rules.specs.Names.{same_name}
use Rattle.std.proofs.Common.{Option, Some, None}
use Rattle.of_structs.specs.OfStructs.{first_match, find_of, find_alias_of}

-- of n words that stand three apart, the first at q, those that are left from the i-th on
abbrev pub match_left : (ℕ → Bool) → List ℕ → ℕ → ℕ → ℕ → Option ℕ
match_left t u n q i = first_match t i (every 3 (n - i) (q + 3 * i) u)

match_begin : (t : ℕ → Bool) (u : List ℕ) (n q : ℕ) → first_match t 0 (every 3 n q u) ≡ match_left t u n q 0
match_begin t u n q =
    let z : n - 0 ≡ n = omega arith in
    let e : q + 3 * 0 ≡ q = omega arith in
    rw (z, e)

module _ (whole : Option ℕ) (t : ℕ → Bool) (u : List ℕ) (n q i : ℕ) (left : whole ≡ match_left t u n q i) where
  module _ (more : i < n) where
    one : whole ≡ cond (t (word u (q + 3 * i))) (Some i) (match_left t u n q (i + 1))
    unfolding first_match
    one =
        let some : 0 < n - i = omega arith in
        let e : n - i - 1 ≡ n - (i + 1) = omega arith in
        let p : q + 3 * i + 3 ≡ q + 3 * (i + 1) = omega arith in
        left ∙ rw (every_first 3 (n - i) (q + 3 * i) u some, e, p, add-one)

    match_hit : t (word u (q + 3 * i)) ≡ true → Some i ≡ whole
    match_hit e = sym (one ∙ rw e)

    match_miss : t (word u (q + 3 * i)) ≡ false → whole ≡ match_left t u n q (i + 1)
    match_miss e = one ∙ rw e

  match_none : n ≤ i → None ≡ whole
  unfolding first_match every
  match_none h = let z : n - i ≡ 0 = omega arith in sym (left ∙ rw z)

-- ---- names

-- a field's name stands in a store's words
pub name_low : (u : List ℕ) (s i : ℕ) → all (λ x. ltb x 1048576) (field_names_on u s) ≡ true → i < count_on u s → (x : ℕ) → x ≡ word u (s + 2 + 3 * i) → x < 1048576
name_low u s i a h x is = omega (arith, is, ltb-true (word u (s + 2 + 3 * i)) 1048576 (all_at (λ x. ltb x 1048576) 3 (count_on u s) (s + 2) u a i h))

module _ (u : List ℕ) (s name : ℕ) where
  abbrev named : ℕ → Bool
  named x = same_name u x name

  pub find_begin : (w : ℕ) → w ≡ word u s → find_of u s name ≡ match_left named u (w / 65536) (s + 2) 0
  find_begin w e = rw e (match_begin named u (count_on u s) (s + 2))

  module _ (n i : ℕ) (left : find_of u s name ≡ match_left named u n (s + 2) i) where
    module _ (more : i < n) (x : ℕ) (is : x ≡ word u (s + 2 + 3 * i)) (t : Bool) (it : t ≡ same_name u x name) where
      pub find_hit : t ≡ true → Some i ≡ find_of u s name
      find_hit e = match_hit _ named u n (s + 2) i left more (rw (← is) (sym it ∙ e))

      pub find_miss : t ≡ false → find_of u s name ≡ match_left named u n (s + 2) (i + 1)
      find_miss e = match_miss _ named u n (s + 2) i left more (rw (← is) (sym it ∙ e))

    pub find_none : n ≤ i → None ≡ find_of u s name
    find_none h = match_none _ named u n (s + 2) i left h

-- ---- aliases

module _ (u : List ℕ) (s alias : ℕ) where
  abbrev aliased : ℕ → Bool
  aliased f = eqb (f / 2) alias

  pub alias_begin : (w : ℕ) → w ≡ word u s → find_alias_of u s alias ≡ match_left aliased u (w / 65536) (s + 4) 0
  alias_begin w e = rw e (match_begin aliased u (count_on u s) (s + 4))

  module _ (n i : ℕ) (left : find_alias_of u s alias ≡ match_left aliased u n (s + 4) i) where
    module _ (more : i < n) (f : ℕ) (is : f ≡ word u (s + 4 + 3 * i)) where
      pub alias_hit : f / 2 ≡ alias → Some i ≡ find_alias_of u s alias
      alias_hit e = match_hit _ aliased u n (s + 4) i left more (rw (← is) (eq-eqb (f / 2) alias e))

      pub alias_miss : (f / 2 ≡ alias → ⊥) → find_alias_of u s alias ≡ match_left aliased u n (s + 4) (i + 1)
      alias_miss e = match_miss _ aliased u n (s + 4) i left more (rw (← is) (ne_eqb (f / 2) alias e))

    pub alias_none : n ≤ i → None ≡ find_alias_of u s alias
    alias_none h = match_none _ aliased u n (s + 4) i left h
