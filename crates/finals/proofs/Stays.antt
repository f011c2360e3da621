-- is_final answers the same in used words that came later. Assumes nothing.
use mathlib.Core.Path.{◌≡◌, refl}
use mathlib.Core.Bool.{Bool, true, false, cond}
use mathlib.Core.List.{List, [], ◌∷◌}
use Prim.Native.Nat.{ℕ, zero, suc, ◌+◌, ◌≤◌}
use native.Mathlib.Omega.{arith}
use borrow.Author.Tests.{eqb-true}
use lib.Dec.{eqb}
use lib.ListN.{length}
use Rattle.words.specs.Kinds.{Struct, MemPtr}
use Rattle.words.specs.Words.{words_after, size_of}
use Rattle.words.proofs.Walk.{size_pos}
use Rattle.words.proofs.Sizes.{struct_size_is}
use Rattle.words.specs.Columns.{every, word, kind_on, depth_on, count_on}
use Rattle.parts.specs.Parts.{Good, Part, All}
use Rattle.parts.proofs.Parts.{of_struct, of_pointer, all_map}
use Rattle.parts.proofs.Good.{part_weak}
use Rattle.later.specs.Later.{Later}
use Rattle.later.proofs.Later.{part_inside, later_every, three_words}
use Rattle.finals.specs.Final.{all_final, fields_final, is_final_within}

module _ {u v : List ℕ} (g : Good u) (x : Later u v) where
  all_stays : (f : List ℕ → ℕ → Bool) (k d : ℕ) → ((t : ℕ) → Part u k d 1 11 t → f v t ≡ f u t) → (vs ts : List ℕ) → All (Part u k d 1 11) ts → all_final f v vs ts ≡ all_final f u vs ts
  unfolding all_final
  all_stays f k d same [] ts a = refl
  all_stays f k d same (w ∷ vs) [] a = refl
  all_stays f k d same (w ∷ vs) (t ∷ ts) a = rw (same t a.0, all_stays f k d same vs ts a.1)

  -- one step: the parts answer the same
  module _ (n : ℕ) (same : (d t : ℕ) → Part u n d 1 11 t → is_final_within n v t ≡ is_final_within n u t) (d a : ℕ) (p : Part u (suc n) d 1 11 a) where
    inside : (1 ≤ a) × (a + size_of (word u a) ≤ length u)
    inside = part_inside g p

    head : word v a ≡ word u a
    head = x.words a inside.0 (omega (arith, inside.1, size_pos (word u a)))

    pub final_step : is_final_within (suc n) v a ≡ is_final_within (suc n) u a
    unfolding is_final_within words_after
    final_step = rw head (pointer (eqb (kind_on u a) MemPtr) refl)
      where
        struct : (t : Bool) → eqb (kind_on u a) Struct ≡ t → cond t (all_final (is_final_within n) v (every 3 (count_on u a) (a + 4) v) (every 3 (count_on u a) (a + 3) v)) true ≡ cond t (fields_final (is_final_within n) u a) true
        struct true q =
            let k8 : kind_on u a ≡ 8 = eqb-true (kind_on u a) 8 q in
            let s = struct_size_is (word u a) k8 in
            let ps = all_map (λ h z. part_weak n (depth_on u a) (omega (arith, p.earlier)) (omega arith) z) (every 3 (count_on u a) (a + 3) u) (of_struct g.sound p k8).types in
            let vs : every 3 (count_on u a) (a + 4) v ≡ every 3 (count_on u a) (a + 4) u = later_every x 3 (count_on u a) (a + 4) (omega arith) (omega (arith, inside.1, s)) in
            let ts : every 3 (count_on u a) (a + 3) v ≡ every 3 (count_on u a) (a + 3) u = later_every x 3 (count_on u a) (a + 3) (omega arith) (omega (arith, inside.1, s)) in
            rw (vs, ts) (all_stays (is_final_within n) n (depth_on u a) (same (depth_on u a)) (every 3 (count_on u a) (a + 4) u) (every 3 (count_on u a) (a + 3) u) ps)
        struct false q = refl

        pointer : (t : Bool) → eqb (kind_on u a) MemPtr ≡ t
            → cond t (is_final_within n v (word v (a + 1))) (cond (eqb (kind_on u a) Struct) (all_final (is_final_within n) v (every 3 (count_on u a) (a + 4) v) (every 3 (count_on u a) (a + 3) v)) true)
            ≡ cond t (is_final_within n u (word u (a + 1))) (cond (eqb (kind_on u a) Struct) (fields_final (is_final_within n) u a) true)
        pointer true q =
            let k10 : kind_on u a ≡ 10 = eqb-true (kind_on u a) 10 q in
            let s = three_words (word u a) 10 k10 refl in
            let w : word v (a + 1) ≡ word u (a + 1) = x.words (a + 1) (omega arith) (omega (arith, inside.1, s)) in
            let to = (of_pointer g.sound p k10).to in
            rw w (same (depth_on u a) (word u (a + 1)) (record { entry = to.entry; earlier = omega (arith, to.earlier, p.earlier); least = omega (arith, to.least); most = omega (arith, to.most); shallow = to.shallow }))
        pointer false q = struct (eqb (kind_on u a) Struct) refl

  pub final_later : (n d a : ℕ) → Part u n d 1 11 a → is_final_within n v a ≡ is_final_within n u a
  final_later zero d a p = absurd (omega (arith, p.earlier))
  final_later (suc n) d a p = final_step n (final_later n) d a p
