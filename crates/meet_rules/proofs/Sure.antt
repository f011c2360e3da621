-- What it says of two operands that a rule decides. Assumes nothing.
use mathlib.Core.Path.{◌≡◌, refl}
use mathlib.Core.Bool.{Bool, true, false, not, cond, ◌&&◌}
use mathlib.Core.List.{List}
use Prim.Native.Nat.{ℕ, ◌+◌, ◌≤◌}
use borrow.Author.Tests.{eqb-true, eqb-false, leb-true, not-false}
use lib.Dec.{eqb, leb}
use Rattle.wellformed.specs.Entry.{is_struct}
use Rattle.wellformed.proofs.Bools.{and_left, and_right}
use Rattle.words.specs.Columns.{word, kind_on, count_on}
use Rattle.rules.proofs.Column.{rule}
use Rattle.meet_rules.specs.Names.{same_name, same_fields}
use Rattle.meet_rules.specs.Rules.{mem_rule, pair_rule, rule_for, type_rule, named_rule, struct_rule}
use Rattle.meet_rules.specs.declared.Rule.{Rule}
use Rattle.meet_rules.specs.declared.Rule.TheVariants.{First, Second, Bottom, Ints, Floats, Tuples, Structs, Pointers, Memories}
use Rattle.meet_rules.specs.declared.StructRule.{StructRule}
use Rattle.meet_rules.specs.declared.StructRule.TheVariants.{Former, Latter, Lowest, Fields}

-- what holds of a choice: of its first answer where the test holds, and of the other anyway
module _ {A : Type 0} (P : A → Type 0) where
  pub chosen : (t : Bool) {x y : A} → (t ≡ true → P x) → P y → P (cond t x y)
  chosen true f g = f refl
  chosen false f g = g

abbrev Sure : ℕ → ℕ → ℕ → ℕ → Rule → Type 0
Sure j k m n First = Unit {0}
Sure j k m n Second = Unit {0}
Sure j k m n Bottom = Unit {0}
Sure j k m n Ints = (j ≡ 5) × (k ≡ 5)
Sure j k m n Floats = (j ≡ 6) × (k ≡ 6)
Sure j k m n Tuples = (j ≡ 7) × (k ≡ 7) × (m ≡ n)
Sure j k m n Structs = (8 ≤ j) × (j ≤ 9) × (8 ≤ k) × (k ≤ 9)
Sure j k m n Pointers = (j ≡ 10) × (k ≡ 10)
Sure j k m n Memories = (j ≡ 11) × (k ≡ 11)

kinds : (j k x : ℕ) → (eqb j x && eqb k x) ≡ true → (j ≡ x) × (k ≡ x)
kinds j k x h = (eqb-true j x (and_left (eqb j x) (eqb k x) h), eqb-true k x (and_right (eqb j x) (eqb k x) h))

struct_kind : (k : ℕ) → is_struct k ≡ true → (8 ≤ k) × (k ≤ 9)
struct_kind k h = (leb-true 8 k (and_left (leb 8 k) (leb k 9) h), leb-true k 9 (and_right (leb 8 k) (leb k 9) h))

module _ (a b j k m n : ℕ) where
  abbrev P : Rule → Type 0
  P = Sure j k m n

  memories : (j ≡ 11) × (k ≡ 11) → P (mem_rule a b)
  memories e =
      rule P (eqb a 79) (λ _. tt) (λ _. rule P (eqb b 79) (λ _. tt) (λ _. rule P (eqb a 76) (λ _. tt) (λ _. rule P (eqb b 76) (λ _. tt) (λ _. e))))

  tuples : (j ≡ 7) × (k ≡ 7) → P (cond (eqb m n) Tuples Bottom)
  tuples e = chosen P (eqb m n) (λ q. (e.0, e.1, eqb-true m n q)) tt

  structs : (is_struct j && is_struct k) ≡ true → P Structs
  structs h =
      let p = struct_kind j (and_left (is_struct j) (is_struct k) h) in
      let q = struct_kind k (and_right (is_struct j) (is_struct k) h) in
      (p.0, p.1, q.0, q.1)

  pair : P (pair_rule a b j k m n)
  unfolding pair_rule
  pair =
      rule P (eqb j 5 && eqb k 5) (λ h. kinds j k 5 h) (λ _.
      rule P (eqb j 6 && eqb k 6) (λ h. kinds j k 6 h) (λ _.
      rule P (eqb j 7 && eqb k 7) (λ h. tuples (kinds j k 7 h)) (λ _.
      rule P (is_struct j && is_struct k) structs (λ _.
      rule P (eqb j 10 && eqb k 10) (λ h. kinds j k 10 h) (λ _.
      rule P (eqb j 11 && eqb k 11) (λ h. memories (kinds j k 11 h)) (λ _. tt))))))

  sure : P (rule_for a b j k m n)
  unfolding rule_for
  sure =
      rule P (eqb a b) (λ _. tt) (λ _.
      rule P (eqb j 1) (λ _. tt) (λ _.
      rule P (eqb k 1) (λ _. tt) (λ _.
      rule P (eqb k 2) (λ _. tt) (λ _.
      rule P (eqb j 2) (λ _. tt) (λ _.
      rule P (eqb j 3 && eqb k 4) (λ _. tt) (λ _.
      rule P (eqb j 4 && eqb k 3) (λ _. tt) (λ _. pair)))))))

module _ (u : List ℕ) (a b : ℕ) where
  abbrev Of : Rule → Type 0
  Of = Sure (kind_on u a) (kind_on u b) (count_on u a) (count_on u b)

  decided : Of (type_rule u a b)
  decided = sure a b (kind_on u a) (kind_on u b) (count_on u a) (count_on u b)

  pub sure_ints : type_rule u a b ≡ Ints → (kind_on u a ≡ 5) × (kind_on u b ≡ 5)
  sure_ints e = rw e at decided

  pub sure_floats : type_rule u a b ≡ Floats → (kind_on u a ≡ 6) × (kind_on u b ≡ 6)
  sure_floats e = rw e at decided

  pub sure_tuples : type_rule u a b ≡ Tuples → (kind_on u a ≡ 7) × (kind_on u b ≡ 7) × (count_on u a ≡ count_on u b)
  sure_tuples e = rw e at decided

  pub sure_structs : type_rule u a b ≡ Structs → (8 ≤ kind_on u a) × (kind_on u a ≤ 9) × (8 ≤ kind_on u b) × (kind_on u b ≤ 9)
  sure_structs e = rw e at decided

  pub sure_pointers : type_rule u a b ≡ Pointers → (kind_on u a ≡ 10) × (kind_on u b ≡ 10)
  sure_pointers e = rw e at decided

  pub sure_memories : type_rule u a b ≡ Memories → (kind_on u a ≡ 11) × (kind_on u b ≡ 11)
  sure_memories e = rw e at decided

-- ---- two structs

abbrev SureStruct : ℕ → ℕ → ℕ → ℕ → StructRule → Type 0
SureStruct j k m n Former = Unit {0}
SureStruct j k m n Latter = Unit {0}
SureStruct j k m n Lowest = Unit {0}
SureStruct j k m n Fields = (j ≡ 9 → ⊥) × (k ≡ 9 → ⊥) × (m ≡ n)

module _ (u : List ℕ) (a b : ℕ) where
  abbrev Q : StructRule → Type 0
  Q = SureStruct (kind_on u a) (kind_on u b) (count_on u a) (count_on u b)

  named : Q (named_rule u a b)
  unfolding named_rule
  named =
      rule Q (not (same_name u (word u (a + 1)) (word u (b + 1)))) (λ _. tt) (λ _.
      rule Q (eqb (kind_on u a) 9) (λ _. tt) (λ f.
      rule Q (eqb (kind_on u b) 9) (λ _. tt) (λ g.
      rule Q (not (eqb (count_on u a) (count_on u b))) (λ _. tt) (λ h.
      rule Q (not (same_fields u (count_on u a) (a + 2) (b + 2))) (λ _. tt) (λ _.
      (eqb-false (kind_on u a) 9 f, eqb-false (kind_on u b) 9 g, eqb-true (count_on u a) (count_on u b) (not-false (eqb (count_on u a) (count_on u b)) h)))))))

  struct : Q (struct_rule u a b)
  unfolding struct_rule
  struct =
      rule Q (eqb a b) (λ _. tt) (λ _.
      rule Q (eqb a 20) (λ _. tt) (λ _.
      rule Q (eqb b 20) (λ _. tt) (λ _.
      rule Q (eqb a 18) (λ _. tt) (λ _.
      rule Q (eqb b 18) (λ _. tt) (λ _. named)))))

  pub sure_fields : struct_rule u a b ≡ Fields → (kind_on u a ≡ 9 → ⊥) × (kind_on u b ≡ 9 → ⊥) × (count_on u a ≡ count_on u b)
  sure_fields e = rw e at struct
