-- The meet of two readings in the code's order of tests, on the sizes' bits: two sizes, a size and a constant. Assumes nothing.
use mathlib.Core.Path.{◌≡◌, refl, ◌∙◌}
use mathlib.Core.Bool.{Bool, true, false, not, ◌&&◌}
use Prim.Native.Nat.{ℕ}
use lib.Dec.{eqb}
use lib.IntN.{ℤ}
use lib.Ieee.{Float as F64}
use mir.Syntax.{w8}
use mir.Val.{SFits, of_z}
use Rattle.rules.specs.Column.{◌⇒◌∣◌}
use Rattle.type_float.specs.declared.Reading.TheVariants.{Constant, Sized}
use Rattle.float_meet.specs.declared.FloatMeet.{FloatMeet}
use Rattle.float_meet.specs.declared.FloatMeet.TheVariants.{First, Second, Single, Double}
use Rattle.type_float.specs.Single.{holds_single}
use Rattle.float_meet.specs.FloatRule.{is64, is32, is_minus32, is_minus64, float_rule}
use Rattle.float_meet.proofs.SizeTest.{tests}

-- ---- two sizes, with the bits a and b

unfoldable pub two_sizes : ℕ → ℕ → FloatMeet
two_sizes a b =
    eqb a 64 ⇒ Double ∣
    eqb b 64 ⇒ Double ∣
    eqb b 192 ⇒ First ∣
    eqb a 192 ⇒ Second ∣
    eqb a 32 ⇒ Single ∣
    eqb b 32 ⇒ Single ∣
    not (eqb a 224) ⇒ Double ∣
    not (eqb b 224) ⇒ Double ∣
    First

-- the definition's column, p, q, .. its tests, is the code's
sizes_order : (p q r s t u v w : Bool)
    → (p ⇒ Double ∣ q ⇒ Double ∣ r ⇒ First ∣ s ⇒ Second ∣ t && false ⇒ Double ∣ t ⇒ Single ∣ u ⇒ Single ∣ v && w ⇒ First ∣ v && false ⇒ Second ∣ v ⇒ Double ∣ w ⇒ Double ∣ Double)
    ≡ (p ⇒ Double ∣ q ⇒ Double ∣ r ⇒ First ∣ s ⇒ Second ∣ t ⇒ Single ∣ u ⇒ Single ∣ not v ⇒ Double ∣ not w ⇒ Double ∣ First)
sizes_order true q r s t u v w = refl
sizes_order false true r s t u v w = refl
sizes_order false false true s t u v w = refl
sizes_order false false false true t u v w = refl
sizes_order false false false false true u v w = refl
sizes_order false false false false false true v w = refl
sizes_order false false false false false false true true = refl
sizes_order false false false false false false true false = refl
sizes_order false false false false false false false true = refl
sizes_order false false false false false false false false = refl

pub of_sizes : (z t : ℤ) → SFits w8 z → SFits w8 t → float_rule (Sized z) (Sized t) ≡ two_sizes (of_z w8 z) (of_z w8 t)
unfolding float_rule two_sizes
of_sizes z t f g =
    let i = tests z f in
    let j = tests t g in
    sizes_order (is64 (Sized z)) (is64 (Sized t)) (is_minus64 (Sized t)) (is_minus64 (Sized z)) (is32 (Sized z)) (is32 (Sized t)) (is_minus32 (Sized z)) (is_minus32 (Sized t))
    ∙ rw (i.p64, j.p64, j.m64, i.m64, i.p32, j.p32, i.m32, j.m32)

-- ---- a size with the bits a, and a constant that is single or not; `own` is the answer that is the constant

unfoldable pub size_and_constant : FloatMeet → ℕ → Bool → FloatMeet
size_and_constant own a single =
    eqb a 64 ⇒ Double ∣
    eqb a 192 ⇒ own ∣
    not single ⇒ Double ∣
    eqb a 32 ⇒ Single ∣
    eqb a 224 ⇒ own ∣
    Double

-- again the definition's column is the code's, with the size first
size_first_order : (p q r s single : Bool)
    → (p ⇒ Double ∣ q ⇒ Second ∣ r && not single ⇒ Double ∣ r ⇒ Single ∣ s && false ⇒ First ∣ s && single ⇒ Second ∣ s ⇒ Double ∣ Double)
    ≡ (p ⇒ Double ∣ q ⇒ Second ∣ not single ⇒ Double ∣ r ⇒ Single ∣ s ⇒ Second ∣ Double)
size_first_order true q r s single = refl
size_first_order false true r s single = refl
size_first_order false false true s single = refl
size_first_order false false false true true = refl
size_first_order false false false true false = refl
size_first_order false false false false true = refl
size_first_order false false false false false = refl

-- and with the constant first
constant_first_order : (p q r s single : Bool)
    → (p ⇒ Double ∣ q ⇒ First ∣ not single && r ⇒ Double ∣ r ⇒ Single ∣ single && s ⇒ First ∣ s ⇒ Double ∣ single && false ⇒ Single ∣ Double)
    ≡ (p ⇒ Double ∣ q ⇒ First ∣ not single ⇒ Double ∣ r ⇒ Single ∣ s ⇒ First ∣ Double)
constant_first_order true q r s single = refl
constant_first_order false true r s single = refl
constant_first_order false false true s true = refl
constant_first_order false false true s false = refl
constant_first_order false false false true true = refl
constant_first_order false false false true false = refl
constant_first_order false false false false true = refl
constant_first_order false false false false false = refl

module _ (z : ℤ) (f : SFits w8 z) (y : F64) where
  -- the code's tests are of the bits
  by_bits : (own : FloatMeet)
      → (is64 (Sized z) ⇒ Double ∣ is_minus64 (Sized z) ⇒ own ∣ not (holds_single y) ⇒ Double ∣ is32 (Sized z) ⇒ Single ∣ is_minus32 (Sized z) ⇒ own ∣ Double)
      ≡ size_and_constant own (of_z w8 z) (holds_single y)
  unfolding size_and_constant
  by_bits own =
      let i = tests z f in
      rw (i.p64, i.m64, i.p32, i.m32)

  pub of_size_first : float_rule (Sized z) (Constant y) ≡ size_and_constant Second (of_z w8 z) (holds_single y)
  unfolding float_rule
  of_size_first = size_first_order (is64 (Sized z)) (is_minus64 (Sized z)) (is32 (Sized z)) (is_minus32 (Sized z)) (holds_single y) ∙ by_bits Second

  pub of_constant_first : float_rule (Constant y) (Sized z) ≡ size_and_constant First (of_z w8 z) (holds_single y)
  unfolding float_rule
  of_constant_first = constant_first_order (is64 (Sized z)) (is_minus64 (Sized z)) (is32 (Sized z)) (is_minus32 (Sized z)) (holds_single y) ∙ by_bits First
