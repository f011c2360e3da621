-- Which rule decides for two types: each way through the tests ends where the column of rules does. Assumes nothing.
use mathlib.Core.Path.{◌≡◌, sym, ◌∙◌}
use mathlib.Core.Bool.{Bool, true, false, ◌&&◌}
use Prim.Native.Nat.{ℕ, ◌≤◌, ◌<◌}
use borrow.Author.Tests.{eq-eqb, ne_eqb, lt-leb, le-leb}
use lib.Dec.{eqb, leb}
use Rattle.wellformed.specs.Entry.{is_struct}
use Rattle.meet_rules.specs.Rules.{mem_rule, pair_rule, rule_for}
use Rattle.meet_rules.specs.declared.Rule.{Rule}
use Rattle.meet_rules.specs.declared.Rule.TheVariants.{First, Second, Bottom, Ints, Floats, Tuples, Structs, Pointers, Memories}

-- ---- kinds

pub below_structs : (k : ℕ) → k < 8 → false ≡ is_struct k
below_structs k h = rw (lt-leb 8 k h)

pub from_structs : (k : ℕ) → 8 ≤ k → leb k 9 ≡ is_struct k
from_structs k h = rw (le-leb 8 k h)

module _ (j k : ℕ) (t : Bool) (e : t ≡ is_struct j) where
  pub first_struct : t ≡ true → (s : Bool) → s ≡ is_struct k → s ≡ (is_struct j && is_struct k)
  first_struct y s f = f ∙ rw (sym e ∙ y)

  pub no_struct : t ≡ false → false ≡ (is_struct j && is_struct k)
  no_struct n = rw (sym e ∙ n)

-- ---- two memories

module _ (a b : ℕ) where
  pub mem_bot_is : a ≡ 79 → First ≡ mem_rule a b
  mem_bot_is e = rw (eq-eqb a 79 e)

  module _ (n1 : a ≡ 79 → ⊥) where
    pub other_mem_bot : b ≡ 79 → Second ≡ mem_rule a b
    other_mem_bot e = rw (ne_eqb a 79 n1, eq-eqb b 79 e)

    module _ (n2 : b ≡ 79 → ⊥) where
      pub mem_top_is : a ≡ 76 → Second ≡ mem_rule a b
      mem_top_is e = rw (ne_eqb a 79 n1, ne_eqb b 79 n2, eq-eqb a 76 e)

      module _ (n3 : a ≡ 76 → ⊥) where
        pub other_mem_top : b ≡ 76 → First ≡ mem_rule a b
        other_mem_top e = rw (ne_eqb a 79 n1, ne_eqb b 79 n2, ne_eqb a 76 n3, eq-eqb b 76 e)

        module _ (n4 : b ≡ 76 → ⊥) where
          pub two_memories : Memories ≡ mem_rule a b
          two_memories = rw (ne_eqb a 79 n1, ne_eqb b 79 n2, ne_eqb a 76 n3, ne_eqb b 76 n4)

-- ---- two of one family

module _ (a b j k m n : ℕ) (t1 : Bool) (e1 : t1 ≡ (eqb j 5 && eqb k 5)) where
  pub two_ints : t1 ≡ true → Ints ≡ pair_rule a b j k m n
  unfolding pair_rule
  two_ints y = rw (sym e1 ∙ y)

  module _ (n1 : t1 ≡ false) (t2 : Bool) (e2 : t2 ≡ (eqb j 6 && eqb k 6)) where
    pub two_floats : t2 ≡ true → Floats ≡ pair_rule a b j k m n
    unfolding pair_rule
    two_floats y = rw (sym e1 ∙ n1, sym e2 ∙ y)

    module _ (n2 : t2 ≡ false) (t3 : Bool) (e3 : t3 ≡ (eqb j 7 && eqb k 7)) where
      pub two_tuples : t3 ≡ true → m ≡ n → Tuples ≡ pair_rule a b j k m n
      unfolding pair_rule
      two_tuples y e = rw (sym e1 ∙ n1, sym e2 ∙ n2, sym e3 ∙ y, eq-eqb m n e)

      pub other_length : t3 ≡ true → (m ≡ n → ⊥) → Bottom ≡ pair_rule a b j k m n
      unfolding pair_rule
      other_length y e = rw (sym e1 ∙ n1, sym e2 ∙ n2, sym e3 ∙ y, ne_eqb m n e)

      module _ (n3 : t3 ≡ false) (t4 : Bool) (e4 : t4 ≡ (is_struct j && is_struct k)) where
        pub two_structs : t4 ≡ true → Structs ≡ pair_rule a b j k m n
        unfolding pair_rule
        two_structs y = rw (sym e1 ∙ n1, sym e2 ∙ n2, sym e3 ∙ n3, sym e4 ∙ y)

        module _ (n4 : t4 ≡ false) (t5 : Bool) (e5 : t5 ≡ (eqb j 10 && eqb k 10)) where
          pub two_pointers : t5 ≡ true → Pointers ≡ pair_rule a b j k m n
          unfolding pair_rule
          two_pointers y = rw (sym e1 ∙ n1, sym e2 ∙ n2, sym e3 ∙ n3, sym e4 ∙ n4, sym e5 ∙ y)

          module _ (n5 : t5 ≡ false) (t6 : Bool) (e6 : t6 ≡ (eqb j 11 && eqb k 11)) where
            pub by_memories : t6 ≡ true → (r : Rule) → r ≡ mem_rule a b → r ≡ pair_rule a b j k m n
            unfolding pair_rule
            by_memories y r e = e ∙ rw (sym e1 ∙ n1, sym e2 ∙ n2, sym e3 ∙ n3, sym e4 ∙ n4, sym e5 ∙ n5, sym e6 ∙ y)

            pub other_pair : t6 ≡ false → Bottom ≡ pair_rule a b j k m n
            unfolding pair_rule
            other_pair y = rw (sym e1 ∙ n1, sym e2 ∙ n2, sym e3 ∙ n3, sym e4 ∙ n4, sym e5 ∙ n5, sym e6 ∙ y)

-- ---- two types

module _ (a b j k m n : ℕ) where
  pub same_handle : a ≡ b → First ≡ rule_for a b j k m n
  unfolding rule_for
  same_handle e = rw (eq-eqb a b e)

  module _ (n1 : a ≡ b → ⊥) where
    pub first_bot : j ≡ 1 → First ≡ rule_for a b j k m n
    unfolding rule_for
    first_bot e = rw (ne_eqb a b n1, eq-eqb j 1 e)

    module _ (n2 : j ≡ 1 → ⊥) where
      pub second_bot : k ≡ 1 → Second ≡ rule_for a b j k m n
      unfolding rule_for
      second_bot e = rw (ne_eqb a b n1, ne_eqb j 1 n2, eq-eqb k 1 e)

      module _ (n3 : k ≡ 1 → ⊥) where
        pub second_top : k ≡ 2 → First ≡ rule_for a b j k m n
        unfolding rule_for
        second_top e = rw (ne_eqb a b n1, ne_eqb j 1 n2, ne_eqb k 1 n3, eq-eqb k 2 e)

        module _ (n4 : k ≡ 2 → ⊥) where
          pub first_top : j ≡ 2 → Second ≡ rule_for a b j k m n
          unfolding rule_for
          first_top e = rw (ne_eqb a b n1, ne_eqb j 1 n2, ne_eqb k 1 n3, ne_eqb k 2 n4, eq-eqb j 2 e)

          module _ (n5 : j ≡ 2 → ⊥) (t6 : Bool) (e6 : t6 ≡ (eqb j 3 && eqb k 4)) where
            pub ctrl_xctrl : t6 ≡ true → First ≡ rule_for a b j k m n
            unfolding rule_for
            ctrl_xctrl y = rw (ne_eqb a b n1, ne_eqb j 1 n2, ne_eqb k 1 n3, ne_eqb k 2 n4, ne_eqb j 2 n5, sym e6 ∙ y)

            module _ (n6 : t6 ≡ false) (t7 : Bool) (e7 : t7 ≡ (eqb j 4 && eqb k 3)) where
              pub xctrl_ctrl : t7 ≡ true → Second ≡ rule_for a b j k m n
              unfolding rule_for
              xctrl_ctrl y = rw (ne_eqb a b n1, ne_eqb j 1 n2, ne_eqb k 1 n3, ne_eqb k 2 n4, ne_eqb j 2 n5, sym e6 ∙ n6, sym e7 ∙ y)

              pub by_pair : t7 ≡ false → (r : Rule) → r ≡ pair_rule a b j k m n → r ≡ rule_for a b j k m n
              unfolding rule_for
              by_pair y r e = e ∙ rw (ne_eqb a b n1, ne_eqb j 1 n2, ne_eqb k 1 n3, ne_eqb k 2 n4, ne_eqb j 2 n5, sym e6 ∙ n6, sym e7 ∙ y)
