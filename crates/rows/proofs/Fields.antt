-- The rows of a struct: each way through the functions gives its row. Assumes nothing.
use mathlib.Core.Path.{◌≡◌, sym, ◌∙◌}
use mathlib.Core.Bool.{Bool, true, false, not}
use mathlib.Core.List.{List, [], ◌∷◌}
use Prim.Native.Nat.{ℕ, ◌/◌, ◌%◌, ◌≤◌, ◌<◌}
use borrow.Author.Tests.{lt-ltb, le-ltb, eq-eqb, ne_eqb, not-true, not-false}
use lib.ListN.{length, take}
use Rattle.words.specs.Table.{starts}
use Rattle.bitset.specs.Bitset.{bit_at}
use Rattle.wellformed.specs.Entry.{kind_in, is_name, is_type, kind_at, all, deepest}
use Rattle.call.specs.Steps.{Marked}
use Rattle.words.specs.Columns.{word}
use Rattle.makers.specs.Entries.{field_names, field_types, field_aliases, field_finals}
use Rattle.makers.specs.Makers.{struct_rows}
use Rattle.rows.specs.Tests.{at_most, any_not}
use Rattle.rows.proofs.Column.{name_kind, deeper, flat}

-- ---- one of three does not hold

module _ (A B C a : Bool) (ia : a ≡ A) where
  pub not_first : not a ≡ true → true ≡ any_not A B C
  unfolding any_not
  not_first n = rw (← ia, not-true a n)

  module _ (y : not a ≡ false) (b : Bool) (ib : b ≡ B) where
    pub not_second : not b ≡ true → true ≡ any_not A B C
    unfolding any_not
    not_second n = rw (← ia, not-false a y, ← ib, not-true b n)

    pub not_third : not b ≡ false → (c : Bool) → c ≡ C → not c ≡ any_not A B C
    unfolding any_not
    not_third z c ic = rw (← ia, not-false a y, ← ib, not-false b z, ic)

-- the same for kinds, of which kind 0 alone is written as a range
module _ (u names types : List ℕ) (name : ℕ) where
  abbrev fit : Bool → Type 0
  fit r = r ≡ any_not (all (kind_at (word u) is_name) (name ∷ [])) (all (kind_at (word u) is_name) names) (all (kind_at (word u) is_type) types)

  module _ (a : Bool) (ia : a ≡ all (kind_at (word u) (kind_in 0 0)) (name ∷ [])) where
    pub unfit_name : not a ≡ true → fit true
    unfit_name n = not_first _ _ _ a (rw name_kind at ia) n

    module _ (y : not a ≡ false) (b : Bool) (ib : b ≡ all (kind_at (word u) (kind_in 0 0)) names) where
      pub unfit_names : not b ≡ true → fit true
      unfit_names n = not_second _ _ _ a (rw name_kind at ia) y b (rw name_kind at ib) n

      pub unfit_types : not b ≡ false → (c : Bool) → c ≡ all (kind_at (word u) (kind_in 1 11)) types → fit (not c)
      unfit_types z c ic = not_third _ _ _ a (rw name_kind at ia) y b (rw name_kind at ib) z c ic

-- ---- the rows

module _ (ws bits : List ℕ) (used : ℕ) (o : Marked ws bits used) (name : ℕ) (fs : List ℕ) (s : Bool)
    (is : s ≡ any_not (all (bit_at bits) (name ∷ [])) (all (bit_at bits) (field_names fs)) (all (bit_at bits) (field_types fs))) where
  abbrev u : List ℕ
  u = take used ws

  two : any_not (all (starts u) (name ∷ [])) (all (starts u) (field_names fs)) (all (starts u) (field_types fs)) ≡ s
  two = sym (rw o.marks at is)

  pub struct_2 : s ≡ true → 2 ≡ struct_rows name fs u
  unfolding struct_rows any_not
  struct_2 e = rw (two ∙ e)

  module _ (n2 : s ≡ false) (k : Bool) (ik : k ≡ any_not (all (kind_at (word u) is_name) (name ∷ [])) (all (kind_at (word u) is_name) (field_names fs)) (all (kind_at (word u) is_type) (field_types fs))) where
    pub struct_3 : k ≡ true → 3 ≡ struct_rows name fs u
    unfolding struct_rows any_not
    struct_3 e = rw (two ∙ n2, sym ik ∙ e)

    module _ (n3 : k ≡ false) where
      pub struct_4 : (length fs % 4 ≡ 0 → ⊥) → 4 ≡ struct_rows name fs u
      unfolding struct_rows any_not
      struct_4 n = rw (two ∙ n2, sym ik ∙ n3, ne_eqb _ _ n)

      module _ (m : length fs % 4 ≡ 0) (a : Bool) (ia : a ≡ all (at_most 4294967295) (field_aliases fs)) where
        pub struct_4_alias : not a ≡ true → 4 ≡ struct_rows name fs u
        unfolding struct_rows any_not
        struct_4_alias n = rw (two ∙ n2, sym ik ∙ n3, eq-eqb _ _ m, sym ia ∙ not-true a n)

        module _ (ya : not a ≡ false) (b : Bool) (ib : b ≡ all (at_most 1) (field_finals fs)) where
          pub struct_4_final : not b ≡ true → 4 ≡ struct_rows name fs u
          unfolding struct_rows any_not
          struct_4_final n = rw (two ∙ n2, sym ik ∙ n3, eq-eqb _ _ m, sym ia ∙ not-false a ya, sym ib ∙ not-true b n)

          module _ (yb : not b ≡ false) where
            pub struct_5 : 255 < length fs / 4 → 5 ≡ struct_rows name fs u
            unfolding struct_rows any_not
            struct_5 h = rw (two ∙ n2, sym ik ∙ n3, eq-eqb _ _ m, sym ia ∙ not-false a ya, sym ib ∙ not-false b yb, lt-ltb _ _ h)

            module _ (few : length fs / 4 ≤ 255) (d : ℕ) (id : d ≡ deepest (word u) (field_types fs)) where
              pub struct_6 : 31 < d → 6 ≡ struct_rows name fs u
              unfolding struct_rows any_not
              struct_6 h = rw (two ∙ n2, sym ik ∙ n3, eq-eqb _ _ m, sym ia ∙ not-false a ya, sym ib ∙ not-false b yb, le-ltb _ _ few, deeper u (field_types fs) d id h)

              pub struct_0 : d ≤ 31 → 0 ≡ struct_rows name fs u
              unfolding struct_rows any_not
              struct_0 h = rw (two ∙ n2, sym ik ∙ n3, eq-eqb _ _ m, sym ia ∙ not-false a ya, sym ib ∙ not-false b yb, le-ltb _ _ few, flat u (field_types fs) d id h)
