-- The rows of an array: each way through the functions gives its row. Assumes nothing.
use mathlib.Core.Path.{◌≡◌, sym, ◌∙◌}
use mathlib.Core.Bool.{Bool, true, false, not}
use mathlib.Core.List.{List, [], ◌∷◌}
use Prim.Native.Nat.{ℕ, ◌+◌, ◌≤◌, ◌<◌}
use native.Mathlib.Omega.{arith}
use borrow.Author.Tests.{lt-ltb, le-ltb, le-leb, lt-leb, eq-eqb, ne_eqb, not-true, not-false}
use lib.Dec.{eqb}
use native.Mathlib.Decide.{dec_lt}
use lib.ListN.{length, take, length-append, get_or-eq_default}
use lib.Seq.{length-take-le}
use Rattle.words.specs.Table.{starts}
use Rattle.bitset.specs.Bitset.{bit_at}
use Rattle.wellformed.specs.Entry.{kind_in, kind_at, all, deepest}
use Rattle.call.specs.Steps.{Marked}
use Rattle.words.specs.Columns.{word, kind_on}
use Rattle.names.specs.Name.{wrapped}
use Rattle.makers.specs.Makers.{never_nil, ary_rows}
use Rattle.rows.proofs.Column.{deeper, flat, unknown, known}

-- two brackets around a text
pub bracketed : (text : List ℕ) → length (wrapped true text) ≡ 2 + length text
unfolding wrapped
bracketed text = omega (arith, length-append text (93 ∷ []))

-- ---- never_nil

-- past the used words there is no kind but a name's
pub kind_inside : (ws : List ℕ) (used h k : ℕ) → used ≤ length ws → k ≡ kind_on (take used ws) h → 0 < k → h < used
kind_inside ws used h k within is some = go (dec_lt h used)
  where
    go : Dec (h < used) → h < used
    go (yes l) = l
    go (no l) =
        let out : length (take used ws) ≤ h = omega (arith, length-take-le used ws within) in
        let z : word (take used ws) h ≡ 0 = get_or-eq_default (take used ws) 0 out in
        let n : k ≡ 0 = is ∙ rw z in
        absurd (omega arith)

module _ (u : List ℕ) (body k : ℕ) (is : k ≡ kind_on u body) where
  pub no_pointer : (k ≡ 10 → ⊥) → false ≡ never_nil u body
  no_pointer n = rw (← is, ne_eqb _ _ n)

  pub a_pointer : k ≡ 10 → (w : ℕ) → w ≡ word u (body + 2) → eqb w 0 ≡ never_nil u body
  a_pointer e w iw = rw (← is, eq-eqb _ _ e, iw)

-- ---- the rows

module _ (ws bits : List ℕ) (used : ℕ) (o : Marked ws bits used) (len la body ba : ℕ) (text : List ℕ) (t : Bool) (is : t ≡ all (bit_at bits) (len ∷ body ∷ [])) where
  abbrev u : List ℕ
  u = take used ws

  pub ary_2 : not t ≡ true → 2 ≡ ary_rows len la body ba text u
  unfolding ary_rows
  ary_2 n = rw (unknown ws bits used o (len ∷ body ∷ []) t is n)

  module _ (y : not t ≡ false) where
    there : all (starts u) (len ∷ body ∷ []) ≡ true
    there = known ws bits used o (len ∷ body ∷ []) t is y

    module _ (k : Bool) (ik : k ≡ all (kind_at (word u) (kind_in 5 5)) (len ∷ [])) where
      pub ary_3_length : not k ≡ true → 3 ≡ ary_rows len la body ba text u
      unfolding ary_rows
      ary_3_length n = rw (there, sym ik ∙ not-true k n)

      module _ (yk : not k ≡ false) (l : Bool) (il : l ≡ all (kind_at (word u) (kind_in 1 11)) (body ∷ [])) where
        pub ary_3_body : not l ≡ true → 3 ≡ ary_rows len la body ba text u
        unfolding ary_rows
        ary_3_body n = rw (there, sym ik ∙ not-false k yk, sym il ∙ not-true l n)

        module _ (yl : not l ≡ false) where
          pub ary_4_length : 4294967295 < la → 4 ≡ ary_rows len la body ba text u
          unfolding ary_rows
          ary_4_length h = rw (there, sym ik ∙ not-false k yk, sym il ∙ not-false l yl, lt-leb _ _ h)

          module _ (fl : la ≤ 4294967295) where
            pub ary_4_body : 4294967295 < ba → 4 ≡ ary_rows len la body ba text u
            unfolding ary_rows
            ary_4_body h = rw (there, sym ik ∙ not-false k yk, sym il ∙ not-false l yl, le-leb _ _ fl, lt-leb _ _ h)

            module _ (fb : ba ≤ 4294967295) where
              pub ary_5 : 253 < length text → 5 ≡ ary_rows len la body ba text u
              unfolding ary_rows
              ary_5 h =
                  let g : 255 < length (wrapped true text) = omega (arith, bracketed text) in
                  rw (there, sym ik ∙ not-false k yk, sym il ∙ not-false l yl, le-leb _ _ fl, le-leb _ _ fb, lt-ltb _ _ g)

              module _ (few : length text ≤ 253) (d : ℕ) (id : d ≡ deepest (word u) (len ∷ body ∷ [])) where
                short : length (wrapped true text) ≤ 255
                short = omega (arith, bracketed text)

                pub ary_6 : 31 < d → 6 ≡ ary_rows len la body ba text u
                unfolding ary_rows
                ary_6 h = rw (there, sym ik ∙ not-false k yk, sym il ∙ not-false l yl, le-leb _ _ fl, le-leb _ _ fb, le-ltb _ _ short, deeper u (len ∷ body ∷ []) d id h)

                module _ (low : d ≤ 31) (n : Bool) (in₁ : n ≡ never_nil u body) where
                  pub ary_10 : n ≡ true → 10 ≡ ary_rows len la body ba text u
                  unfolding ary_rows
                  ary_10 e = rw (there, sym ik ∙ not-false k yk, sym il ∙ not-false l yl, le-leb _ _ fl, le-leb _ _ fb, le-ltb _ _ short, flat u (len ∷ body ∷ []) d id low, sym in₁ ∙ e)

                  pub ary_0 : n ≡ false → 0 ≡ ary_rows len la body ba text u
                  unfolding ary_rows
                  ary_0 e = rw (there, sym ik ∙ not-false k yk, sym il ∙ not-false l yl, le-leb _ _ fl, le-leb _ _ fb, le-ltb _ _ short, flat u (len ∷ body ∷ []) d id low, sym in₁ ∙ e)
