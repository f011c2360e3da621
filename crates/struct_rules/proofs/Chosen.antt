-- Which rule decides for two structs or forward references: each way through the tests ends where the column of rules does. Assumes nothing.
use mathlib.Core.Path.{◌≡◌, sym, ◌∙◌}
use mathlib.Core.Bool.{Bool, true, false, not}
use mathlib.Core.List.{List}
use Prim.Native.Nat.{ℕ, ◌+◌, ◌/◌, ◌%◌}
use borrow.Author.Tests.{eq-eqb, ne_eqb, not-true, not-false}
use lib.ListN.{get_or}
use Rattle.meet_rules.specs.Names.{same_name, same_fields}
use Rattle.meet_rules.specs.Rules.{named_rule, struct_rule}
use Rattle.meet_rules.specs.declared.StructRule.{StructRule}
use Rattle.meet_rules.specs.declared.StructRule.TheVariants.{Former, Latter, Lowest, Fields}

module _ (u : List ℕ) (a b : ℕ) where
  pub same_struct : a ≡ b → Former ≡ struct_rule u a b
  unfolding struct_rule
  same_struct e = rw (eq-eqb a b e)

  module _ (n1 : a ≡ b → ⊥) where
    pub first_struct_bot : a ≡ 20 → Lowest ≡ struct_rule u a b
    unfolding struct_rule
    first_struct_bot e = rw (ne_eqb a b n1, eq-eqb a 20 e)

    module _ (n2 : a ≡ 20 → ⊥) where
      pub second_struct_bot : b ≡ 20 → Lowest ≡ struct_rule u a b
      unfolding struct_rule
      second_struct_bot e = rw (ne_eqb a b n1, ne_eqb a 20 n2, eq-eqb b 20 e)

      module _ (n3 : b ≡ 20 → ⊥) where
        pub first_struct_top : a ≡ 18 → Latter ≡ struct_rule u a b
        unfolding struct_rule
        first_struct_top e = rw (ne_eqb a b n1, ne_eqb a 20 n2, ne_eqb b 20 n3, eq-eqb a 18 e)

        module _ (n4 : a ≡ 18 → ⊥) where
          pub second_struct_top : b ≡ 18 → Former ≡ struct_rule u a b
          unfolding struct_rule
          second_struct_top e = rw (ne_eqb a b n1, ne_eqb a 20 n2, ne_eqb b 20 n3, ne_eqb a 18 n4, eq-eqb b 18 e)

          module _ (n5 : b ≡ 18 → ⊥) where
            pub by_name : (r : StructRule) → r ≡ named_rule u a b → r ≡ struct_rule u a b
            unfolding struct_rule
            by_name r e = e ∙ rw (ne_eqb a b n1, ne_eqb a 20 n2, ne_eqb b 20 n3, ne_eqb a 18 n4, ne_eqb b 18 n5)

-- structs that are neither $BOT nor $TOP
module _ (u : List ℕ) (a b x y : ℕ) (ex : x ≡ get_or u (a + 1) 0) (ey : y ≡ get_or u (b + 1) 0) (t : Bool) (e : t ≡ same_name u x y) where
  names : same_name u (get_or u (a + 1) 0) (get_or u (b + 1) 0) ≡ t
  names = rw (← ex, ← ey) (sym e)

  pub other_name : not t ≡ true → Lowest ≡ named_rule u a b
  unfolding named_rule
  other_name z = rw (names ∙ not-true t z)

  module _ (s : not t ≡ false) (f g : ℕ) (ef : f ≡ get_or u a 0) (eg : g ≡ get_or u b 0) where
    named : same_name u (get_or u (a + 1) 0) (get_or u (b + 1) 0) ≡ true
    named = names ∙ not-false t s

    pub fref_first : f % 256 ≡ 9 → Latter ≡ named_rule u a b
    unfolding named_rule
    fref_first z = rw (named, ← ef, eq-eqb (f % 256) 9 z)

    module _ (n1 : f % 256 ≡ 9 → ⊥) where
      pub fref_second : g % 256 ≡ 9 → Former ≡ named_rule u a b
      unfolding named_rule
      fref_second z = rw (named, ← ef, ← eg, ne_eqb (f % 256) 9 n1, eq-eqb (g % 256) 9 z)

      module _ (n2 : g % 256 ≡ 9 → ⊥) where
        pub other_count : (f / 65536 ≡ g / 65536 → ⊥) → Lowest ≡ named_rule u a b
        unfolding named_rule
        other_count z = rw (named, ← ef, ← eg, ne_eqb (f % 256) 9 n1, ne_eqb (g % 256) 9 n2, ne_eqb (f / 65536) (g / 65536) z)

        module _ (c : f / 65536 ≡ g / 65536) (o : Bool) (h : o ≡ same_fields u (f / 65536) (a + 2) (b + 2)) where
          pub other_fields : not o ≡ true → Lowest ≡ named_rule u a b
          unfolding named_rule
          other_fields z = rw (named, ← ef, ← eg, ne_eqb (f % 256) 9 n1, ne_eqb (g % 256) 9 n2, eq-eqb (f / 65536) (g / 65536) c, sym h ∙ not-true o z)

          pub fields_meet : not o ≡ false → Fields ≡ named_rule u a b
          unfolding named_rule
          fields_meet z = rw (named, ← ef, ← eg, ne_eqb (f % 256) 9 n1, ne_eqb (g % 256) 9 n2, eq-eqb (f / 65536) (g / 65536) c, sym h ∙ not-false o z)
