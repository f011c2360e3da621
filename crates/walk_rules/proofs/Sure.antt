-- What it says of an operand which form its answer has. Assumes nothing.
use mathlib.Core.Path.{◌≡◌}
use mathlib.Core.Bool.{false}
use Prim.Native.Nat.{ℕ, ◌≤◌}
use native.Mathlib.Omega.{arith}
use borrow.Author.Tests.{eqb-true, eqb-false, leb-true, leb-false}
use lib.Dec.{eqb, leb}
use Rattle.rules.proofs.Column.{rule}
use Rattle.walk_rules.specs.Tables.{end_of, struct_form, tuple_form, form_for}
use Rattle.walk_rules.specs.declared.Walk.{Walk}
use Rattle.walk_rules.specs.declared.Walk.TheVariants.{Dual, Glb, Lub}
use Rattle.walk_rules.specs.declared.Form.{Form}
use Rattle.walk_rules.specs.declared.Form.TheVariants.{Is, AnInt, AFloat, ATuple, AStruct, APointer, AMemory}

-- a handle that an answer is: a fresh type, or the operand
pub data Known (a k : ℕ) : ℕ → Type 0 where
  is_bot : k ≤ 7 → Known a k 5
  is_top : k ≤ 7 → Known a k 6
  is_ctrl : k ≤ 7 → Known a k 7
  is_xctrl : k ≤ 7 → Known a k 8
  is_struct_top : k ≡ 8 → Known a k 18
  is_struct_bot : k ≡ 8 → Known a k 20
  is_itself : k ≡ 9 → Known a k a

-- what each form says
abbrev Sure : ℕ → ℕ → Form → Type 0
Sure a k (Is h) = Known a k h
Sure a k AnInt = k ≡ 5
Sure a k AFloat = k ≡ 6
Sure a k ATuple = k ≡ 7
Sure a k AStruct = k ≡ 8
Sure a k APointer = k ≡ 10
Sure a k AMemory = k ≤ 11 → k ≡ 11

module _ (a k : ℕ) where
  abbrev P : Form → Type 0
  P = Sure a k

  ends : (w : Walk) → k ≤ 7 → Known a k (end_of w k)
  ends Dual l = rule (Known a k) (eqb k 1) (λ e. is_top l) (λ e. rule (Known a k) (eqb k 2) (λ f. is_bot l) (λ f. rule (Known a k) (eqb k 3) (λ h. is_xctrl l) (λ h. is_ctrl l)))
  ends Glb l = rule (Known a k) (eqb k 3) (λ e. is_ctrl l) (λ e. is_bot l)
  ends Lub l = rule (Known a k) (eqb k 3) (λ e. is_xctrl l) (λ e. is_top l)

  tuples : (w : Walk) → k ≡ 7 → P (tuple_form w)
  tuples Dual e = e
  tuples Glb e = e
  tuples Lub e = is_top (omega arith)

  structs : (w : Walk) → k ≡ 8 → P (struct_form w a)
  structs Dual e = rule P (eqb a 18) (λ f. is_struct_bot e) (λ f. rule P (eqb a 20) (λ h. is_struct_top e) (λ h. e))
  structs Glb e = e
  structs Lub e = e

  sure : (w : Walk) → P (form_for w a k)
  unfolding form_for
  sure w =
      rule P (leb k 4) (λ e. ends w (omega (arith, leb-true k 4 e))) (λ n₄.
      rule P (eqb k 5) (λ e. eqb-true k 5 e) (λ n₅.
      rule P (eqb k 6) (λ e. eqb-true k 6 e) (λ n₆.
      rule P (eqb k 7) (λ e. tuples w (eqb-true k 7 e)) (λ n₇.
      rule P (eqb k 8) (λ e. structs w (eqb-true k 8 e)) (λ n₈.
      rule P (eqb k 9) (λ e. is_itself (eqb-true k 9 e)) (λ n₉.
      rule P (eqb k 10) (λ e. eqb-true k 10 e) (λ n₁₀ l. last n₄ n₅ n₆ n₇ n₈ n₉ n₁₀ l)))))))
    where
      last : leb k 4 ≡ false → eqb k 5 ≡ false → eqb k 6 ≡ false → eqb k 7 ≡ false → eqb k 8 ≡ false → eqb k 9 ≡ false → eqb k 10 ≡ false → k ≤ 11 → k ≡ 11
      last a₄ a₅ a₆ a₇ a₈ a₉ a₁₀ l =
          let b₄ = leb-false k 4 a₄ in
          let b₅ = eqb-false k 5 a₅ in
          let b₆ = eqb-false k 6 a₆ in
          let b₇ = eqb-false k 7 a₇ in
          let b₈ = eqb-false k 8 a₈ in
          let b₉ = eqb-false k 9 a₉ in
          let b₁₀ = eqb-false k 10 a₁₀ in
          omega arith

module _ (w : Walk) (a k : ℕ) where
  pub form_ints : form_for w a k ≡ AnInt → k ≡ 5
  form_ints e = rw e at (sure a k w)

  pub form_floats : form_for w a k ≡ AFloat → k ≡ 6
  form_floats e = rw e at (sure a k w)

  pub form_tuples : form_for w a k ≡ ATuple → k ≡ 7
  form_tuples e = rw e at (sure a k w)

  pub form_fields : form_for w a k ≡ AStruct → k ≡ 8
  form_fields e = rw e at (sure a k w)

  pub form_pointers : form_for w a k ≡ APointer → k ≡ 10
  form_pointers e = rw e at (sure a k w)

  pub form_memories : form_for w a k ≡ AMemory → k ≤ 11 → k ≡ 11
  form_memories e = rw e at (sure a k w)

  pub form_is : (h : ℕ) → form_for w a k ≡ Is h → Known a k h
  form_is h e = rw e at (sure a k w)
