-- Every n above the handle gives the same is_final: n only bounds the recursion. Assumes nothing.
use mathlib.Core.Path.{◌≡◌, refl}
use mathlib.Core.Bool.{Bool, true, false, cond}
use mathlib.Core.List.{List, [], ◌∷◌}
use Prim.Native.Nat.{ℕ, zero, suc, ◌+◌, ◌<◌}
use native.Mathlib.Omega.{arith}
use borrow.Author.Tests.{eqb-true}
use lib.Dec.{eqb}
use Rattle.words.specs.Kinds.{Struct, MemPtr}
use Rattle.words.specs.Columns.{every, word, kind_on, depth_on, count_on}
use Rattle.parts.specs.Parts.{Good, Part, All}
use Rattle.parts.proofs.Parts.{of_struct, of_pointer}
use Rattle.finals.specs.Final.{all_final, fields_final, is_final_within}

-- two tests that answer the same of every type before a
module _ {u : List ℕ} (g : Good u) {a k d : ℕ} (p : Part u k d 1 11 a) (f f' : List ℕ → ℕ → Bool) (same : (x e : ℕ) → Part u a e 1 11 x → f u x ≡ f' u x) where
  all_same : (e : ℕ) (vs ts : List ℕ) → All (Part u a e 1 11) ts → all_final f u vs ts ≡ all_final f' u vs ts
  unfolding all_final
  all_same e [] ts b = refl
  all_same e (v ∷ vs) [] b = refl
  all_same e (v ∷ vs) (t ∷ ts) b = rw (same t e b.0, all_same e vs ts b.1)

  struct_same : (t : Bool) → eqb (kind_on u a) Struct ≡ t → cond t (fields_final f u a) true ≡ cond t (fields_final f' u a) true
  struct_same true q = all_same (depth_on u a) (every 3 (count_on u a) (a + 4) u) (every 3 (count_on u a) (a + 3) u) (of_struct g.sound p (eqb-true (kind_on u a) 8 q)).types
  struct_same false q = refl

  step_same : (t : Bool) → eqb (kind_on u a) MemPtr ≡ t → cond t (f u (word u (a + 1))) (cond (eqb (kind_on u a) Struct) (fields_final f u a) true) ≡ cond t (f' u (word u (a + 1))) (cond (eqb (kind_on u a) Struct) (fields_final f' u a) true)
  step_same true q =
      let to = (of_pointer g.sound p (eqb-true (kind_on u a) 10 q)).to in
      same (word u (a + 1)) (depth_on u a) (record { entry = to.entry; earlier = to.earlier; least = omega (arith, to.least); most = omega (arith, to.most); shallow = to.shallow })
  step_same false q = struct_same (eqb (kind_on u a) Struct) refl

-- a is any type of good used words
pub final_any : {u : List ℕ} → Good u → {a k d : ℕ} → Part u k d 1 11 a → (m n : ℕ) → a < m → a < n → is_final_within m u a ≡ is_final_within n u a
unfolding is_final_within
final_any g p zero n l r = absurd (omega arith)
final_any g p (suc m) zero l r = absurd (omega arith)
final_any {u} g {a} p (suc m) (suc n) l r = step_same g p (is_final_within m) (is_final_within n) (λ x e q. final_any g q m n (omega (arith, q.earlier)) (omega (arith, q.earlier))) (eqb (kind_on u a) MemPtr) refl
