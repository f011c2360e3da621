-- Which form an answer has: each way through the tests ends where the column does. Assumes nothing.
use mathlib.Core.Path.{◌≡◌, ◌∙◌}
use mathlib.Core.List.{List}
use Prim.Native.Nat.{ℕ, ◌%◌, ◌≤◌, ◌<◌}
use borrow.Author.Tests.{eq-eqb, ne_eqb, lt-leb, le-leb}
use lib.ListN.{get_or}
use Rattle.words.specs.Columns.{kind_on}
use Rattle.walk_rules.specs.Tables.{end_of, struct_form, tuple_form, form_for}
use Rattle.walk_rules.specs.declared.Walk.{Walk}
use Rattle.walk_rules.specs.declared.Walk.TheVariants.{Dual, Glb, Lub}
use Rattle.walk_rules.specs.declared.Form.{Form}
use Rattle.walk_rules.specs.declared.Form.TheVariants.{Is, AnInt, AFloat, AStruct, APointer, AMemory}

-- ---- Bot, Top, Ctrl and XCtrl

module _ (k : ℕ) where
  pub dual_bot : k ≡ 1 → 6 ≡ end_of Dual k
  dual_bot e = rw (eq-eqb k 1 e)

  module _ (n1 : k ≡ 1 → ⊥) where
    pub dual_top : k ≡ 2 → 5 ≡ end_of Dual k
    dual_top e = rw (ne_eqb k 1 n1, eq-eqb k 2 e)

    module _ (n2 : k ≡ 2 → ⊥) where
      pub dual_ctrl : k ≡ 3 → 8 ≡ end_of Dual k
      dual_ctrl e = rw (ne_eqb k 1 n1, ne_eqb k 2 n2, eq-eqb k 3 e)

      pub dual_xctrl : (k ≡ 3 → ⊥) → 7 ≡ end_of Dual k
      dual_xctrl n3 = rw (ne_eqb k 1 n1, ne_eqb k 2 n2, ne_eqb k 3 n3)

module _ (w : Walk) (k : ℕ) where
  pub end_dual : w ≡ Dual → (r : ℕ) → r ≡ end_of Dual k → r ≡ end_of w k
  end_dual e r is = is ∙ rw e

  module _ (e : w ≡ Glb) where
    pub glb_ctrl : k ≡ 3 → 7 ≡ end_of w k
    glb_ctrl h = rw (e, eq-eqb k 3 h)

    pub glb_other : (k ≡ 3 → ⊥) → 5 ≡ end_of w k
    glb_other h = rw (e, ne_eqb k 3 h)

  module _ (e : w ≡ Lub) where
    pub lub_ctrl : k ≡ 3 → 8 ≡ end_of w k
    lub_ctrl h = rw (e, eq-eqb k 3 h)

    pub lub_other : (k ≡ 3 → ⊥) → 6 ≡ end_of w k
    lub_other h = rw (e, ne_eqb k 3 h)

-- ---- structs and tuples

module _ (a : ℕ) where
  pub dual_struct_top : a ≡ 18 → Is 20 ≡ struct_form Dual a
  dual_struct_top e = rw (eq-eqb a 18 e)

  module _ (n1 : a ≡ 18 → ⊥) where
    pub dual_struct_bot : a ≡ 20 → Is 18 ≡ struct_form Dual a
    dual_struct_bot e = rw (ne_eqb a 18 n1, eq-eqb a 20 e)

    pub dual_fields : (a ≡ 20 → ⊥) → AStruct ≡ struct_form Dual a
    dual_fields n2 = rw (ne_eqb a 18 n1, ne_eqb a 20 n2)

pub struct_dual : (w : Walk) (a : ℕ) → w ≡ Dual → (r : Form) → r ≡ struct_form Dual a → r ≡ struct_form w a
struct_dual w a e r is = is ∙ rw e

pub tuple_lub : (w : Walk) → w ≡ Lub → Is 6 ≡ tuple_form w
tuple_lub w e = rw e

-- ---- all kinds

module _ (w : Walk) (a k : ℕ) where
  pub an_end : k ≤ 4 → (r : ℕ) → r ≡ end_of w k → Is r ≡ form_for w a k
  unfolding form_for
  an_end h r e = rw (le-leb k 4 h, e)

  module _ (n0 : 4 < k) where
    pub an_int : k ≡ 5 → AnInt ≡ form_for w a k
    unfolding form_for
    an_int e = rw (lt-leb k 4 n0, eq-eqb k 5 e)

    module _ (n1 : k ≡ 5 → ⊥) where
      pub a_float : k ≡ 6 → AFloat ≡ form_for w a k
      unfolding form_for
      a_float e = rw (lt-leb k 4 n0, ne_eqb k 5 n1, eq-eqb k 6 e)

      module _ (n2 : k ≡ 6 → ⊥) where
        pub a_tuple : k ≡ 7 → (r : Form) → r ≡ tuple_form w → r ≡ form_for w a k
        unfolding form_for
        a_tuple e r is = is ∙ rw (lt-leb k 4 n0, ne_eqb k 5 n1, ne_eqb k 6 n2, eq-eqb k 7 e)

        module _ (n3 : k ≡ 7 → ⊥) where
          pub a_struct : k ≡ 8 → (r : Form) → r ≡ struct_form w a → r ≡ form_for w a k
          unfolding form_for
          a_struct e r is = is ∙ rw (lt-leb k 4 n0, ne_eqb k 5 n1, ne_eqb k 6 n2, ne_eqb k 7 n3, eq-eqb k 8 e)

          module _ (n4 : k ≡ 8 → ⊥) where
            pub an_fref : k ≡ 9 → Is a ≡ form_for w a k
            unfolding form_for
            an_fref e = rw (lt-leb k 4 n0, ne_eqb k 5 n1, ne_eqb k 6 n2, ne_eqb k 7 n3, ne_eqb k 8 n4, eq-eqb k 9 e)

            module _ (n5 : k ≡ 9 → ⊥) where
              pub a_pointer : k ≡ 10 → APointer ≡ form_for w a k
              unfolding form_for
              a_pointer e = rw (lt-leb k 4 n0, ne_eqb k 5 n1, ne_eqb k 6 n2, ne_eqb k 7 n3, ne_eqb k 8 n4, ne_eqb k 9 n5, eq-eqb k 10 e)

              pub a_memory : (k ≡ 10 → ⊥) → AMemory ≡ form_for w a k
              unfolding form_for
              a_memory n6 = rw (lt-leb k 4 n0, ne_eqb k 5 n1, ne_eqb k 6 n2, ne_eqb k 7 n3, ne_eqb k 8 n4, ne_eqb k 9 n5, ne_eqb k 10 n6)

-- from the word at a
pub by_word : (w : Walk) (u : List ℕ) (a x : ℕ) (r : Form) → x ≡ get_or u a 0 → r ≡ form_for w a (x % 256) → r ≡ form_for w a (kind_on u a)
by_word w u a x r ex e = e ∙ rw ex
