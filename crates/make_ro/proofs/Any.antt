-- Every n above the handle gives the same read-only form: n only bounds the recursion. Assumes nothing.
use mathlib.Core.Path.{◌≡◌, refl, ap}
use mathlib.Core.Bool.{Bool, true, false, cond, not, ◌&&◌}
use mathlib.Core.List.{List, [], ◌∷◌}
use Prim.Native.Nat.{ℕ, zero, suc, ◌+◌, ◌%◌, ◌<◌}
use native.Mathlib.Omega.{arith}
use borrow.Author.Tests.{eqb-true}
use lib.Dec.{eqb}
use Rattle.words.specs.Made.{Grown, there}
use Rattle.words.specs.Columns.{every, word, kind_on, depth_on, count_on}
use Rattle.call.specs.Adds.{Adds}
use Rattle.call.proofs.Sound.{adds_none}
use Rattle.parts.specs.Parts.{Good, Part, All}
use Rattle.parts.proofs.Parts.{of_struct, of_pointer, all_map}
use Rattle.parts.proofs.Good.{part_below, good_adds, part_adds}
use Rattle.rules.specs.Column.{◌⇒◌∣◌}
use Rattle.meet.specs.Meet.{led}
use Rattle.meet.proofs.Nice.{narrow}
use Rattle.walk.specs.Walk.{Op₁}
use Rattle.walk.proofs.Any.{Agree₁}
use Rattle.finals.specs.Final.{is_final_of}
use Rattle.make_ro.specs.ReadOnly.{field_type, read_only_each, read_only_field_types, read_only_struct_of, pointer_to, make_ro_within}
use Rattle.make_ro.proofs.Nice.{struct_kind, make_ro_nice}

module _ (op op' : Op₁) (k : ℕ) (agree : Agree₁ k op op') where
  field_agree : (v : ℕ) → Agree₁ k (λ u t. field_type op u v t) (λ u t. field_type op' u v t)
  field_agree v u x d g p = go (eqb (v % 2) 1)
    where
      go : (t : Bool) → Adds u (cond t (there u x) (op u x)) × (cond t (there u x) (op u x) ≡ cond t (there u x) (op' u x))
      go true = (adds_none u x g.sound, refl)
      go false = agree u x d g p

  each_same : (u : List ℕ) (d : ℕ) (vs ts : List ℕ) → Good u → All (Part u k d 1 11) ts → read_only_each op u vs ts ≡ read_only_each op' u vs ts
  unfolding read_only_each
  each_same u d [] ts g a = refl
  each_same u d (v ∷ vs) [] g a = refl
  each_same u d (v ∷ vs) (t ∷ ts) g a =
      let r = field_agree v u t d g a.0 in
      let f = field_type op u v t in
      rw (← r.1) (ap (led f.handle) (each_same f.words d vs ts (good_adds g r.0) (all_map (λ z p. part_adds g r.0 p) ts a.1)))

-- what is done with the parts of a, by the two tests of its kind
abbrev step : Op₁ → List ℕ → ℕ → Bool → Bool → Grown
step op u a t s = t ⇒ pointer_to u a (op u (word u (a + 1))) ∣ s ⇒ read_only_struct_of a (read_only_field_types op u a) ∣ there u a

-- the parts of a stand before it
module _ (op op' : Op₁) (u : List ℕ) (a k d : ℕ) (g : Good u) (p : Part u k d 1 11 a) (agree : Agree₁ a op op') where
  step_same : (t s : Bool) → eqb (kind_on u a) 10 ≡ t → (s ≡ true → kind_on u a ≡ 8) → step op u a t s ≡ step op' u a t s
  step_same true s e f =
      let to = (of_pointer g.sound p (eqb-true (kind_on u a) 10 e)).to in
      ap (pointer_to u a) (agree u (word u (a + 1)) (depth_on u a) g (narrow 1 11 to (omega (arith, to.least)) (omega (arith, to.most)))).1
  step_same false true e f =
      let n = count_on u a in
      ap (read_only_struct_of a) (each_same op op' a agree u (depth_on u a) (every 3 n (a + 4) u) (every 3 n (a + 3) u) g (of_struct g.sound p (f refl)).types)
  step_same false false e f = refl

-- a is any type of good used words
pub make_ro_any : {u : List ℕ} → Good u → {a k d : ℕ} → Part u k d 1 11 a → (m n : ℕ) → a < m → a < n → make_ro_within m u a ≡ make_ro_within n u a
unfolding make_ro_within
make_ro_any g p zero n l r = absurd (omega arith)
make_ro_any g p (suc m) zero l r = absurd (omega arith)
make_ro_any {u} g {a} {k} {d} p (suc m) (suc n) l r =
    step_same (make_ro_within m) (make_ro_within n) u a k d g p
    (λ v x e h q. (((make_ro_nice m).types v x e h (part_below m (omega (arith, q.earlier)) q)).adds, make_ro_any h q m n (omega (arith, q.earlier)) (omega (arith, q.earlier))))
    (eqb (kind_on u a) 10) (eqb (kind_on u a) 8 && not (is_final_of u a)) refl (struct_kind u a)
