-- Every n above the handle gives the same walk: n only bounds the recursion. Assumes nothing.
use mathlib.Core.Path.{◌≡◌, refl, ap}
use mathlib.Core.List.{List, [], ◌∷◌}
use Prim.Native.Nat.{ℕ, zero, suc, ◌+◌, ◌<◌}
use native.Mathlib.Omega.{arith}
use Rattle.words.specs.Columns.{every, word, kind_on, depth_on, count_on}
use Rattle.call.specs.Adds.{Adds}
use Rattle.parts.specs.Parts.{Good, Part, All}
use Rattle.parts.proofs.Parts.{of_tuple, of_struct, of_pointer, of_memory, all_map}
use Rattle.parts.proofs.Good.{part_below, good_adds, part_adds}
use Rattle.meet.specs.Meet.{led, tuple_of, pointer_of, memory_of}
use Rattle.meet.proofs.Nice.{narrow}
use Rattle.walk_rules.specs.Tables.{form_for, nil_of}
use Rattle.walk_rules.specs.declared.Walk.{Walk}
use Rattle.walk_rules.specs.declared.Form.{Form}
use Rattle.walk_rules.specs.declared.Form.TheVariants.{Is, AnInt, AFloat, ATuple, AStruct, APointer, AMemory}
use Rattle.walk_rules.proofs.Sure.{form_tuples, form_fields, form_pointers, form_memories}
use Rattle.walk.specs.Walk.{Op₁, walk_each, walk_struct_of, follow_form, walk_within}
use Rattle.walk.proofs.Nice.{walk_nice}

-- two operations that are the same at every type before k of all good used words; the first adds entries, so that the words it leaves are good again
abbrev pub Agree₁ : ℕ → Op₁ → Op₁ → Type 0
Agree₁ k op op' = (u : List ℕ) (x d : ℕ) → Good u → Part u k d 1 11 x → Adds u (op u x) × (op u x ≡ op' u x)

each_same : (op op' : Op₁) (k : ℕ) → Agree₁ k op op' → (u : List ℕ) (d : ℕ) (xs : List ℕ) → Good u → All (Part u k d 1 11) xs → walk_each op u xs ≡ walk_each op' u xs
unfolding walk_each
each_same op op' k agree u d [] g a = refl
each_same op op' k agree u d (x ∷ xs) g a =
    let r = agree u x d g a.0 in
    rw (← r.1) (ap (led (op u x).handle) (each_same op op' k agree (op u x).words d xs (good_adds g r.0) (all_map (λ z p. part_adds g r.0 p) xs a.1)))

-- what a form makes of the parts of a, which stand before it
follow_same : (w : Walk) (op op' : Op₁) (u : List ℕ) (a k d : ℕ) → Good u → Part u k d 1 11 a → Agree₁ a op op' → (f : Form) → form_for w a (kind_on u a) ≡ f → follow_form w op u a f ≡ follow_form w op' u a f
unfolding follow_form
follow_same w op op' u a k d g p agree (Is h) q = refl
follow_same w op op' u a k d g p agree AnInt q = refl
follow_same w op op' u a k d g p agree AFloat q = refl
follow_same w op op' u a k d g p agree ATuple q =
    let ta = of_tuple g.sound p (form_tuples w a (kind_on u a) q) in
    ap tuple_of (each_same op op' a agree u (depth_on u a) (every 1 (count_on u a) (a + 1) u) g ta.types)
follow_same w op op' u a k d g p agree AStruct q =
    let sa = of_struct g.sound p (form_fields w a (kind_on u a) q) in
    ap (walk_struct_of w a) (each_same op op' a agree u (depth_on u a) (every 3 (count_on u a) (a + 3) u) g sa.types)
follow_same w op op' u a k d g p agree APointer q =
    let to = (of_pointer g.sound p (form_pointers w a (kind_on u a) q)).to in
    ap (pointer_of (nil_of w (word u (a + 2)))) (agree u (word u (a + 1)) (depth_on u a) g (narrow 1 11 to (omega (arith, to.least)) (omega (arith, to.most)))).1
follow_same w op op' u a k d g p agree AMemory q =
    let to = (of_memory g.sound p (form_memories w a (kind_on u a) q p.most)).to in
    ap (memory_of (word u (a + 1))) (agree u (word u (a + 2)) (depth_on u a) g to).1

-- a is any type of good used words
pub walk_any : (w : Walk) {u : List ℕ} → Good u → {a k d : ℕ} → Part u k d 1 11 a → (m n : ℕ) → a < m → a < n → walk_within w m u a ≡ walk_within w n u a
unfolding walk_within
walk_any w g p zero n l r = absurd (omega arith)
walk_any w g p (suc m) zero l r = absurd (omega arith)
walk_any w {u} g {a} {k} {d} p (suc m) (suc n) l r =
    follow_same w (walk_within w m) (walk_within w n) u a k d g p
    (λ v x e h q. (((walk_nice w m).types v x e h (part_below m (omega (arith, q.earlier)) q)).adds, walk_any w h q m n (omega (arith, q.earlier)) (omega (arith, q.earlier))))
    (form_for w a (kind_on u a)) refl
