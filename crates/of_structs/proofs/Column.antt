-- Rows of refusals, one after another: each way through a function gives its row. Assumes nothing.
use mathlib.Core.Path.{◌≡◌, sym, ◌∙◌}
use mathlib.Core.Bool.{Bool, true, false, not}
use mathlib.Core.List.{List, [], ◌∷◌}
use Prim.Native.Nat.{ℕ, ◌≤◌, ◌<◌}
use borrow.Author.Tests.{le-leb, lt-leb, ne_eqb, not-true, not-false}
use lib.Dec.{eqb}
use lib.ListN.{take}
use Rattle.words.specs.Table.{starts}
use Rattle.words.specs.Columns.{word, kind_on}
use Rattle.bitset.specs.Bitset.{bit_at}
use Rattle.wellformed.specs.Entry.{kind_in, is_name, kind_at, all}
use Rattle.call.specs.Steps.{Marked}
use Rattle.rows.proofs.Column.{name_kind, unknown, known}
use Rattle.of_structs.specs.OfStructs.{is_array, fields_rows, find_rows, find_alias_rows, array_rows}

-- the kind of a forward reference, and another
fref : (u : List ℕ) (s k : ℕ) → k ≡ kind_on u s → k ≡ 9 → eqb (kind_on u s) 9 ≡ true
fref u s k is e = rw (sym is ∙ e)

no_fref : (u : List ℕ) (s k : ℕ) → k ≡ kind_on u s → (k ≡ 9 → ⊥) → eqb (kind_on u s) 9 ≡ false
no_fref u s k is n = ne_eqb (kind_on u s) 9 (λ e. n (is ∙ e))

module _ (ws bits : List ℕ) (used : ℕ) (o : Marked ws bits used) where
  abbrev u : List ℕ
  u = take used ws

  -- ---- one handle

  module _ (s : ℕ) (t : Bool) (is : t ≡ all (bit_at bits) (s ∷ [])) where
    module _ (n : not t ≡ true) where
      gone : all (starts u) (s ∷ []) ≡ false
      gone = unknown ws bits used o (s ∷ []) t is n

      pub fields_2 : 2 ≡ fields_rows s u
      unfolding fields_rows
      fields_2 = rw gone

      pub alias_2 : (alias : ℕ) → 2 ≡ find_alias_rows s alias u
      unfolding find_alias_rows
      alias_2 alias = rw gone

      pub array_2 : 2 ≡ array_rows s u
      unfolding array_rows
      array_2 = rw gone

    module _ (y : not t ≡ false) where
      there : all (starts u) (s ∷ []) ≡ true
      there = known ws bits used o (s ∷ []) t is y

      -- an array
      module _ (a : Bool) (ia : a ≡ is_array u s) where
        pub array_3 : not a ≡ true → 3 ≡ array_rows s u
        unfolding array_rows
        array_3 n = rw (there, sym ia ∙ not-true a n)

        pub array_0 : not a ≡ false → 0 ≡ array_rows s u
        unfolding array_rows
        array_0 z = rw (there, sym ia ∙ not-false a z)

      module _ (k : Bool) (ik : k ≡ all (kind_at (word u) (kind_in 8 9)) (s ∷ [])) where
        -- the fields
        pub fields_3 : not k ≡ true → 3 ≡ fields_rows s u
        unfolding fields_rows
        fields_3 n = rw (there, sym ik ∙ not-true k n)

        module _ (z : not k ≡ false) (kind : ℕ) (iw : kind ≡ kind_on u s) where
          pub fields_7 : kind ≡ 9 → 7 ≡ fields_rows s u
          unfolding fields_rows
          fields_7 e = rw (there, sym ik ∙ not-false k z, fref u s kind iw e)

          pub fields_0 : (kind ≡ 9 → ⊥) → 0 ≡ fields_rows s u
          unfolding fields_rows
          fields_0 n = rw (there, sym ik ∙ not-false k z, no_fref u s kind iw n)

        -- a field by its alias
        module _ (alias : ℕ) where
          pub alias_3 : not k ≡ true → 3 ≡ find_alias_rows s alias u
          unfolding find_alias_rows
          alias_3 n = rw (there, sym ik ∙ not-true k n)

          module _ (z : not k ≡ false) where
            pub alias_4 : 4294967295 < alias → 4 ≡ find_alias_rows s alias u
            unfolding find_alias_rows
            alias_4 h = rw (there, sym ik ∙ not-false k z, lt-leb _ _ h)

            module _ (fits : alias ≤ 4294967295) (kind : ℕ) (iw : kind ≡ kind_on u s) where
              pub alias_7 : kind ≡ 9 → 7 ≡ find_alias_rows s alias u
              unfolding find_alias_rows
              alias_7 e = rw (there, sym ik ∙ not-false k z, le-leb _ _ fits, fref u s kind iw e)

              pub alias_0 : (kind ≡ 9 → ⊥) → 0 ≡ find_alias_rows s alias u
              unfolding find_alias_rows
              alias_0 n = rw (there, sym ik ∙ not-false k z, le-leb _ _ fits, no_fref u s kind iw n)

  -- ---- a field by its name

  module _ (s name : ℕ) (t : Bool) (is : t ≡ all (bit_at bits) (s ∷ name ∷ [])) where
    pub find_2 : not t ≡ true → 2 ≡ find_rows s name u
    unfolding find_rows
    find_2 n = rw (unknown ws bits used o (s ∷ name ∷ []) t is n)

    module _ (y : not t ≡ false) (k : Bool) (ik : k ≡ all (kind_at (word u) (kind_in 8 9)) (s ∷ [])) where
      both : all (starts u) (s ∷ name ∷ []) ≡ true
      both = known ws bits used o (s ∷ name ∷ []) t is y

      pub find_3_struct : not k ≡ true → 3 ≡ find_rows s name u
      unfolding find_rows
      find_3_struct n = rw (both, sym ik ∙ not-true k n)

      module _ (z : not k ≡ false) (l : Bool) (il : l ≡ all (kind_at (word u) (kind_in 0 0)) (name ∷ [])) where
        named : all (kind_at (word u) is_name) (name ∷ []) ≡ l
        named = sym (rw name_kind at il)

        pub find_3_name : not l ≡ true → 3 ≡ find_rows s name u
        unfolding find_rows
        find_3_name n = rw (both, sym ik ∙ not-false k z, named ∙ not-true l n)

        module _ (v : not l ≡ false) (kind : ℕ) (iw : kind ≡ kind_on u s) where
          pub find_7 : kind ≡ 9 → 7 ≡ find_rows s name u
          unfolding find_rows
          find_7 e = rw (both, sym ik ∙ not-false k z, named ∙ not-false l v, fref u s kind iw e)

          pub find_0 : (kind ≡ 9 → ⊥) → 0 ≡ find_rows s name u
          unfolding find_rows
          find_0 n = rw (both, sym ik ∙ not-false k z, named ∙ not-false l v, no_fref u s kind iw n)
