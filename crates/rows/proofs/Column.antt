-- Rows of refusals, one after another: each way through a function gives its row. Assumes nothing.
use mathlib.Core.Path.{◌≡◌, sym, ◌∙◌, fun_ext}
use mathlib.Core.Bool.{Bool, true, false, not, ◌&&◌}
use mathlib.Core.List.{List, [], ◌∷◌}
use Prim.Native.Nat.{ℕ, ◌+◌, ◌≤◌, ◌<◌}
use native.Mathlib.Omega.{arith}
use borrow.Author.Tests.{lt-ltb, le-ltb, le-leb, lt-leb, ne_eqb, not-true, not-false}
use native.Mathlib.Decide.{dec_lt}
use lib.Dec.{eqb, leb}
use lib.ListN.{length, take}
use Rattle.words.specs.Table.{starts}
use Rattle.bitset.specs.Bitset.{bit_at}
use Rattle.wellformed.specs.Entry.{kind_in, is_name, kind_at, all, deepest}
use Rattle.call.specs.Steps.{Marked}
use Rattle.call.specs.Handles.{too_deep, types_rows}
use Rattle.words.specs.Columns.{word}
use Rattle.makers.specs.Makers.{tuple_rows, fref_rows, part_rows}

-- kind 0 alone
pub name_kind : kind_in 0 0 ≡ is_name
name_kind = fun_ext (λ k. go k (dec_lt 0 k))
  where
    go : (k : ℕ) → Dec (0 < k) → (leb 0 k && leb k 0) ≡ eqb k 0
    go k (yes h) =
        let z : 0 ≤ k = omega arith in
        let n : k ≡ 0 → ⊥ = (λ e. omega arith) in
        rw (le-leb 0 k z, lt-leb k 0 h, ne_eqb k 0 n)
    go k (no h) =
        let z : k ≡ 0 = omega arith in
        rw z

pub deeper : (u hs : List ℕ) (d : ℕ) → d ≡ deepest (word u) hs → 31 < d → too_deep u hs ≡ true
deeper u hs d is h = lt-ltb 32 (1 + deepest (word u) hs) (omega arith)

pub flat : (u hs : List ℕ) (d : ℕ) → d ≡ deepest (word u) hs → d ≤ 31 → too_deep u hs ≡ false
flat u hs d is h = le-ltb 32 (1 + deepest (word u) hs) (omega arith)

-- handles that start entries
module _ (ws bits : List ℕ) (used : ℕ) (o : Marked ws bits used) (hs : List ℕ) (t : Bool) (is : t ≡ all (bit_at bits) hs) where
  same : all (starts (take used ws)) hs ≡ t
  same = sym (rw o.marks at is)

  pub unknown : not t ≡ true → all (starts (take used ws)) hs ≡ false
  unknown n = same ∙ not-true t n

  pub known : not t ≡ false → all (starts (take used ws)) hs ≡ true
  known y = same ∙ not-false t y

module _ (ws bits : List ℕ) (used : ℕ) (o : Marked ws bits used) where
  abbrev u : List ℕ
  u = take used ws

  -- the rows of calls on types, and a tuple's
  module _ (types : List ℕ) (t : Bool) (is : t ≡ all (bit_at bits) types) where
    pub types_2 : not t ≡ true → 2 ≡ types_rows types u
    unfolding types_rows
    types_2 n = rw (unknown ws bits used o types t is n)

    pub tuple_2 : not t ≡ true → 2 ≡ tuple_rows types u
    unfolding tuple_rows
    tuple_2 n = rw (unknown ws bits used o types t is n)

    module _ (y : not t ≡ false) (k : Bool) (ik : k ≡ all (kind_at (word u) (kind_in 1 11)) types) where
      pub types_3 : not k ≡ true → 3 ≡ types_rows types u
      unfolding types_rows
      types_3 n = rw (known ws bits used o types t is y, sym ik ∙ not-true k n)

      pub types_0 : not k ≡ false → 0 ≡ types_rows types u
      unfolding types_rows
      types_0 z = rw (known ws bits used o types t is y, sym ik ∙ not-false k z)

      pub tuple_3 : not k ≡ true → 3 ≡ tuple_rows types u
      unfolding tuple_rows
      tuple_3 n = rw (known ws bits used o types t is y, sym ik ∙ not-true k n)

      module _ (z : not k ≡ false) where
        pub tuple_5 : 255 < length types → 5 ≡ tuple_rows types u
        unfolding tuple_rows
        tuple_5 h = rw (known ws bits used o types t is y, sym ik ∙ not-false k z, lt-ltb _ _ h)

        module _ (few : length types ≤ 255) (d : ℕ) (id : d ≡ deepest (word u) types) where
          pub tuple_6 : 31 < d → 6 ≡ tuple_rows types u
          unfolding tuple_rows
          tuple_6 h = rw (known ws bits used o types t is y, sym ik ∙ not-false k z, le-ltb _ _ few, deeper u types d id h)

          pub tuple_0 : d ≤ 31 → 0 ≡ tuple_rows types u
          unfolding tuple_rows
          tuple_0 h = rw (known ws bits used o types t is y, sym ik ∙ not-false k z, le-ltb _ _ few, flat u types d id h)

  -- the rows of calls on one handle
  module _ (h : ℕ) (t : Bool) (is : t ≡ all (bit_at bits) (h ∷ [])) where
    module _ (n : not t ≡ true) where
      gone : all (starts u) (h ∷ []) ≡ false
      gone = unknown ws bits used o (h ∷ []) t is n

      pub fref_2 : 2 ≡ fref_rows h u
      unfolding fref_rows
      fref_2 = rw gone

      pub part_2 : (p : ℕ → Bool) (taken : Bool) → 2 ≡ part_rows p taken h u
      unfolding part_rows
      part_2 p taken = rw gone

    module _ (y : not t ≡ false) where
      there : all (starts u) (h ∷ []) ≡ true
      there = known ws bits used o (h ∷ []) t is y

      module _ (k : Bool) (ik : k ≡ all (kind_at (word u) (kind_in 0 0)) (h ∷ [])) where
        named : all (kind_at (word u) is_name) (h ∷ []) ≡ k
        named = sym (rw name_kind at ik)

        pub fref_3 : not k ≡ true → 3 ≡ fref_rows h u
        unfolding fref_rows
        fref_3 n = rw (there, named ∙ not-true k n)

        pub fref_0 : not k ≡ false → 0 ≡ fref_rows h u
        unfolding fref_rows
        fref_0 z = rw (there, named ∙ not-false k z)

      module _ (low high : ℕ) (taken : Bool) (k : Bool) (ik : k ≡ all (kind_at (word u) (kind_in low high)) (h ∷ [])) where
        pub part_3 : not k ≡ true → 3 ≡ part_rows (kind_in low high) taken h u
        unfolding part_rows
        part_3 n = rw (there, sym ik ∙ not-true k n)

        module _ (z : not k ≡ false) where
          pub part_4 : not taken ≡ true → 4 ≡ part_rows (kind_in low high) taken h u
          unfolding part_rows
          part_4 n = rw (there, sym ik ∙ not-false k z, not-true taken n)

          module _ (v : not taken ≡ false) (d : ℕ) (id : d ≡ deepest (word u) (h ∷ [])) where
            pub part_6 : 31 < d → 6 ≡ part_rows (kind_in low high) taken h u
            unfolding part_rows
            part_6 g = rw (there, sym ik ∙ not-false k z, not-false taken v, deeper u (h ∷ []) d id g)

            pub part_0 : d ≤ 31 → 0 ≡ part_rows (kind_in low high) taken h u
            unfolding part_rows
            part_0 g = rw (there, sym ik ∙ not-false k z, not-false taken v, flat u (h ∷ []) d id g)
