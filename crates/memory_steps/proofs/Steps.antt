-- The steps, case by case. Assumes nothing.
use mathlib.Core.Path.{◌≡◌, refl, sym, ◌∙◌}
use mathlib.Core.Bool.{false}
use mathlib.Core.List.{List}
use Prim.Native.Nat.{ℕ}
use native.Mathlib.Omega.{arith}
use lib.Dec.{eqb}
use lib.ListN.{length, replicate}
use Rattle.std.specs.Prelude.{Option, None}
use Rattle.words.specs.Ran.{interned}
use Rattle.words.specs.declared.Interned.{Interned}
use Rattle.walk_rules.specs.declared.Walk.{Walk}
use Rattle.walk_rules.specs.declared.Walk.TheVariants.{Dual, Glb, Lub}
use Rattle.memory_steps.specs.Steps.{part_of, second, Forgot}

module _ (walk : Walk) where
  pub dual_part : walk ≡ Dual → 0 ≡ part_of walk
  unfolding part_of
  dual_part e = rw e

  pub glb_part : walk ≡ Glb → 2 ≡ part_of walk
  unfolding part_of
  glb_part e = rw e

  pub lub_part : walk ≡ Lub → 3 ≡ part_of walk
  unfolding part_of
  lub_part e = rw e

module _ (m : Option Interned) where
  pub second_at : (h v b : ℕ) → m ≡ interned h v → eqb h b ≡ second m b
  unfolding second
  second_at h v b e = rw e

  pub second_full : (b : ℕ) → m ≡ None → false ≡ second m b
  unfolding second
  second_full b e = rw e

-- a memory that is forgotten where the answer did not fit
module _ (r : Option Interned) (memory : List ℕ) where
  pub forgot_all : (memory' : List ℕ) → r ≡ None → memory' ≡ replicate (length memory) 0 → Forgot r memory memory'
  forgot_all memory' is z = record { full = λ _. z; kept = λ ne. absurd (ne is) }

  pub forgot_none : (h v : ℕ) → r ≡ interned h v → Forgot r memory memory
  forgot_none h v is = record { full = λ e. absurd (clash (sym is ∙ e)); kept = λ _. refl }
    where
      clash : interned h v ≡ None → ⊥
      clash q = let z : ◌≡◌ {A = ℕ} 0 1 = cc in omega arith
