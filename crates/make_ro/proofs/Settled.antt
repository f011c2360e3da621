-- make_ro again, in used words that came later: nothing is appended, and the handle is the same. Assumes nothing.
use mathlib.Core.Path.{◌≡◌, refl, sym, ap, ◌∙◌}
use mathlib.Core.Bool.{Bool, true, false, cond, not, ◌&&◌}
use mathlib.Core.List.{List, [], ◌∷◌}
use Prim.Native.Nat.{ℕ, zero, suc, ◌+◌, ◌*◌, ◌%◌, ◌≤◌}
use native.Mathlib.Omega.{arith}
use borrow.Author.Tests.{eqb-true}
use lib.Dec.{eqb}
use lib.ListN.{length, replicate, length-replicate}
use Rattle.words.specs.Kinds.{MemPtr}
use Rattle.words.specs.Words.{kind_of, words_after, size_of}
use Rattle.words.specs.Made.{Grown, there}
use Rattle.words.proofs.Walk.{size_pos}
use Rattle.words.proofs.Sizes.{struct_size_is}
use Rattle.words.specs.Columns.{every, word, kind_on, depth_on, count_on}
use Rattle.parts.specs.Parts.{Good, Part, All}
use Rattle.parts.proofs.Parts.{flat, deep, of_struct, of_pointer, all_map}
use Rattle.parts.proofs.Good.{part_weak, part_below, good_adds, part_adds}
use Rattle.later.specs.Later.{Later}
use Rattle.later.proofs.Later.{later_then, later_adds, part_inside, later_every, three_words, around_again, around_later, remake_again, remake_later}
use Rattle.later.proofs.Right.{Settles₁}
use Rattle.meet_fields.proofs.Finals.{every_length}
use Rattle.rules.specs.Column.{◌⇒◌∣◌}
use Rattle.meet.specs.Meet.{pointer_of}
use Rattle.meet.proofs.Nice.{narrow}
use Rattle.walk.specs.Walk.{Op₁}
use Rattle.walk.proofs.Nice.{Nice₁}
use Rattle.finals.specs.Final.{is_final_of}
use Rattle.finals.proofs.Stays.{final_later}
use Rattle.make_ro.specs.ReadOnly.{field_type, read_only_each, read_only_field_types, read_only_struct_of, pointer_to, make_ro_within}
use Rattle.make_ro.proofs.Nice.{field_nice, each_nice, struct_kind, make_ro_nice}

-- what is done with the parts of a, in the used words w, by the two tests of its kind
abbrev step : Op₁ → ℕ → List ℕ → Bool → Bool → Grown
step op a w t s = t ⇒ pointer_to w a (op w (word w (a + 1))) ∣ s ⇒ read_only_struct_of a (read_only_field_types op w a) ∣ there w a

step_same : (op : Op₁) (a : ℕ) (w : List ℕ) (t t' s s' : Bool) → t ≡ t' → s ≡ s' → step op a w t s ≡ step op a w t' s'
step_same op a w t t' s s' e f = rw (e, f)

module _ (op : Op₁) (k : ℕ) (nice : Nice₁ k op) (settles : Settles₁ k op) where
  field_settled : (u : List ℕ) (value t d : ℕ) → Good u → Part u k d 1 11 t → (v : List ℕ) → Later (field_type op u value t).words v → field_type op v value t ≡ there v (field_type op u value t).handle
  field_settled u value t d g p v = go (eqb (value % 2) 1)
    where
      go : (f : Bool) → Later (cond f (there u t) (op u t)).words v → cond f (there v t) (op v t) ≡ there v (cond f (there u t) (op u t)).handle
      go true x = refl
      go false x = settles u t d g p v x

  each_settled : (u : List ℕ) (d : ℕ) (vs ts : List ℕ) → Good u → All (Part u k d 1 11) ts → length vs ≡ length ts → (v : List ℕ) → Later (read_only_each op u vs ts).words v → read_only_each op v vs ts ≡ record { words = v; handles = (read_only_each op u vs ts).handles }
  unfolding read_only_each
  each_settled u d [] ts g a l v x = refl
  each_settled u d (w ∷ vs) [] g a l v x = refl
  each_settled u d (w ∷ vs) (t ∷ ts) g a l v x =
      let r = field_nice op k nice u w t d g a.0 in
      let y = (field_type op u w t).words in
      let g₁ = good_adds g r.adds in
      let later = all_map (λ z p. part_adds g r.adds p) ts a.1 in
      let long : length vs ≡ length ts = omega arith in
      let e : field_type op v w t ≡ there v (field_type op u w t).handle = field_settled u w t d g a.0 v (later_then (later_adds g₁ (each_nice op k nice y d vs ts g₁ later long).adds) x) in
      let f : read_only_each op v vs ts ≡ record { words = v; handles = (read_only_each op y vs ts).handles } = each_settled y d vs ts g₁ later long v x in
      rw (e, f)

  module _ (u : List ℕ) (a d : ℕ) (g : Good u) (p : Part u (suc k) d 1 11 a) (v : List ℕ) (z : Later u v) where
    inside : (1 ≤ a) × (a + size_of (word u a) ≤ length u)
    inside = part_inside g p

    pointer_settled : kind_on u a ≡ 10 → Later (pointer_to u a (op u (word u (a + 1)))).words v → pointer_to v a (op v (word v (a + 1))) ≡ there v (pointer_to u a (op u (word u (a + 1)))).handle
    unfolding words_after
    pointer_settled k10 = go (eqb s.handle t) refl
      where
        t : ℕ
        t = word u (a + 1)

        nil : ℕ
        nil = word u (a + 2)

        s : Grown
        s = op u t

        size : size_of (word u a) ≡ 3
        size = three_words (word u a) 10 k10 refl

        to : Part u k (depth_on u a) 1 11 t
        to = let q = (of_pointer g.sound p k10).to in part_weak k (depth_on u a) (omega (arith, p.earlier)) (omega arith) (narrow 1 11 q (omega (arith, q.least)) (omega (arith, q.most)))

        a1 : word v (a + 1) ≡ t
        a1 = z.words (a + 1) (omega arith) (omega (arith, inside, size))

        a2 : word v (a + 2) ≡ nil
        a2 = z.words (a + 2) (omega arith) (omega (arith, inside, size))

        go : (b : Bool) → eqb s.handle t ≡ b → Later (cond b (there s.words a) (pointer_of nil s)).words v
            → cond (eqb (op v (word v (a + 1))).handle (word v (a + 1))) (there (op v (word v (a + 1))).words a) (pointer_of (word v (a + 2)) (op v (word v (a + 1)))) ≡ there v (cond b (there s.words a) (pointer_of nil s)).handle
        go true q x =
            let e : op v t ≡ there v s.handle = settles u t (depth_on u a) g to v x in
            rw (a1, e, q)
        go false q x =
            let r = nice.types u t (depth_on u a) g to in
            let g₁ = good_adds g r.adds in
            let o = deep g.sound p (omega arith) in
            let fl = flat g.sound p in
            let y = later_then (around_later g₁ (length s.words) (depth_on u a) 1 11 o fl MemPtr 0 (s.handle ∷ []) (s.handle ∷ nil ∷ []) (r.part, tt) (omega arith) refl) x in
            let e : op v t ≡ there v s.handle = settles u t (depth_on u a) g to v y in
            rw (a1, a2, e, q) (around_again g₁ (length s.words) (depth_on u a) 1 11 o fl MemPtr 0 (s.handle ∷ []) (s.handle ∷ nil ∷ []) (r.part, tt) (omega arith) refl v x)

    struct_settled : kind_on u a ≡ 8 → Later (read_only_struct_of a (read_only_field_types op u a)).words v → read_only_struct_of a (read_only_field_types op v a) ≡ there v (read_only_struct_of a (read_only_field_types op u a)).handle
    struct_settled k8 x =
        let n = count_on u a in
        let s = struct_size_is (word u a) k8 in
        let pa = all_map (λ h q. part_weak k (depth_on u a) (omega (arith, p.earlier)) (omega arith) q) (every 3 n (a + 3) u) (of_struct g.sound p k8).types in
        let long = every_length 3 n (a + 4) u ∙ sym (every_length 3 n (a + 3) u) in
        let e = each_nice op k nice u (depth_on u a) (every 3 n (a + 4) u) (every 3 n (a + 3) u) g pa long in
        let m = read_only_field_types op u a in
        let w = m.words in
        let hs = m.handles in
        let g₁ = good_adds g e.adds in
        let up = later_adds g e.adds in
        let o = deep g.sound p (omega arith) in
        let fl = flat g.sound p in
        let ones : List ℕ = replicate (length hs) 1 in
        let same : length hs ≡ length ones = sym (length-replicate (length hs) 1) in
        let room : a + 2 + 3 * length hs ≤ length w = omega (arith, e.long, every_length 3 n (a + 3) u, up.long, inside.1, s) in
        let y : Later w v = later_then (remake_later g₁ (length w) (depth_on u a) 1 11 o fl a hs ones same e.parts inside.0 room) x in
        let c : word v a ≡ word u a = z.words a inside.0 (omega (arith, inside.1, s)) in
        let vs : every 3 n (a + 4) v ≡ every 3 n (a + 4) u = later_every z 3 n (a + 4) (omega arith) (omega (arith, inside.1, s)) in
        let xs : every 3 n (a + 3) v ≡ every 3 n (a + 3) u = later_every z 3 n (a + 3) (omega arith) (omega (arith, inside.1, s)) in
        let ts : read_only_field_types op v a ≡ record { words = v; handles = hs } = rw (c, vs, xs) (each_settled u (depth_on u a) (every 3 n (a + 4) u) (every 3 n (a + 3) u) g pa long v y) in
        rw ts (remake_again g₁ (length w) (depth_on u a) 1 11 o fl a hs ones same e.parts inside.0 room v x)

    pub step_settled : (t s : Bool) → eqb (kind_on u a) 10 ≡ t → (s ≡ true → kind_on u a ≡ 8) → Later (step op a u t s).words v → step op a v t s ≡ there v (step op a u t s).handle
    step_settled true s e f x = pointer_settled (eqb-true (kind_on u a) 10 e) x
    step_settled false true e f x = struct_settled (f refl) x
    step_settled false false e f x = refl

-- at every n above the handle
pub make_ro_settled : (n : ℕ) → Settles₁ n (make_ro_within n)
unfolding make_ro_within
make_ro_settled zero u a d g p v x = absurd (omega (arith, p.earlier))
make_ro_settled (suc n) u a d g p v x =
    let z : Later u v = later_then (later_adds g ((make_ro_nice (suc n)).types u a d g p).adds) x in
    let i = part_inside g p in
    let c : word v a ≡ word u a = z.words a i.0 (omega (arith, i.1, size_pos (word u a))) in
    let f : is_final_of v a ≡ is_final_of u a = final_later g z (suc a) d a (part_below (suc a) (omega arith) p) in
    let pointer : eqb (kind_on v a) 10 ≡ eqb (kind_on u a) 10 = ap (λ (w : ℕ). eqb (kind_of w) 10) c in
    let struct : (eqb (kind_on v a) 8 && not (is_final_of v a)) ≡ (eqb (kind_on u a) 8 && not (is_final_of u a)) = rw (f, c) in
    step_same (make_ro_within n) a v (eqb (kind_on v a) 10) (eqb (kind_on u a) 10) (eqb (kind_on v a) 8 && not (is_final_of v a)) (eqb (kind_on u a) 8 && not (is_final_of u a)) pointer struct
    ∙ step_settled (make_ro_within n) n (make_ro_nice n) (make_ro_settled n) u a d g p v z (eqb (kind_on u a) 10) (eqb (kind_on u a) 8 && not (is_final_of u a)) refl (struct_kind u a) x
