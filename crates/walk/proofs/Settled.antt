-- A walk again, in used words that came later: nothing is appended, and the handle is the same. Assumes nothing.
use mathlib.Core.Path.{◌≡◌, refl, sym, ◌∙◌}
use mathlib.Core.Bool.{Bool, true, false, cond}
use mathlib.Core.List.{List, [], ◌∷◌}
use Prim.Native.Nat.{ℕ, zero, suc, ◌+◌, ◌-◌, ◌*◌, ◌≤◌}
use native.Mathlib.Omega.{arith}
use lib.Dec.{eqb}
use lib.ListN.{length}
use Rattle.words.specs.Kinds.{Tuple, MemPtr, Mem}
use Rattle.words.specs.Words.{words_after, size_of}
use Rattle.words.specs.Made.{there, make}
use Rattle.words.proofs.Walk.{size_pos}
use Rattle.words.proofs.Sizes.{tuple_size, struct_size_is}
use Rattle.words.specs.Columns.{every, word, kind_on, depth_on, count_on}
use Rattle.makers.specs.Entries.{int_entry, float_entry}
use Rattle.parts.specs.Parts.{Good, Part, All}
use Rattle.parts.proofs.Parts.{flat, deep, of_tuple, of_struct, of_pointer, of_memory, all_map}
use Rattle.parts.proofs.Good.{part_weak, good_adds, part_adds}
use Rattle.later.specs.Later.{Later}
use Rattle.later.proofs.Later.{later_then, later_adds, part_inside, later_every, make_again, sized_of, three_words, around_again, around_later, remake_again, remake_later}
use Rattle.later.proofs.Right.{Settles₁}
use Rattle.meet_fields.proofs.Finals.{every_length}
use Rattle.meet.proofs.Nice.{narrow}
use Rattle.walk_rules.specs.Tables.{form_for, int_of, float_of, nil_of, finals_of, walk_fields}
use Rattle.walk_rules.specs.declared.Walk.{Walk}
use Rattle.walk_rules.specs.declared.Walk.TheVariants.{Dual, Glb, Lub}
use Rattle.walk_rules.specs.declared.Form.{Form}
use Rattle.walk_rules.specs.declared.Form.TheVariants.{Is, AnInt, AFloat, ATuple, AStruct, APointer, AMemory}
use Rattle.walk_rules.proofs.Sure.{form_ints, form_floats, form_tuples, form_fields, form_pointers, form_memories}
use Rattle.walk_fields.proofs.Finals.{finals_length}
use Rattle.walk.specs.Walk.{Op₁, walk_each, walk_elements, walk_field_types, follow_form, walk_within}
use Rattle.walk.proofs.Nice.{Nice₁, each_nice, each_part, walk_nice}

module _ (op : Op₁) (k : ℕ) (nice : Nice₁ k op) (settles : Settles₁ k op) where
  each_settled : (u : List ℕ) (d : ℕ) (xs : List ℕ) → Good u → All (Part u k d 1 11) xs → (v : List ℕ) → Later (walk_each op u xs).words v → walk_each op v xs ≡ record { words = v; handles = (walk_each op u xs).handles }
  unfolding walk_each
  each_settled u d [] g a v x = refl
  each_settled u d (z ∷ xs) g a v x =
      let r = nice.types u z d g a.0 in
      let w = (op u z).words in
      let g₁ = good_adds g r.adds in
      let later = all_map (λ q p. part_adds g r.adds p) xs a.1 in
      let e : op v z ≡ there v (op u z).handle = settles u z d g a.0 v (later_then (later_adds g₁ (each_nice op k nice w d xs g₁ later).adds) x) in
      let f : walk_each op v xs ≡ record { words = v; handles = (walk_each op w xs).handles } = each_settled w d xs g₁ later v x in
      rw (e, f)

  module _ (walk : Walk) (u : List ℕ) (a d : ℕ) (g : Good u) (p : Part u (suc k) d 1 11 a) (v : List ℕ) (z : Later u v) where
    abbrev some : 1 ≤ a
    some = (part_inside g p).0

    inside : a + size_of (word u a) ≤ length u
    inside = (part_inside g p).1

    parts_below : (hs : List ℕ) → All (Part u a (depth_on u a) 1 11) hs → All (Part u k (depth_on u a) 1 11) hs
    parts_below = all_map (λ y x. part_weak k (depth_on u a) (omega (arith, p.earlier)) (omega arith) x)

    int_again : kind_on u a ≡ 5 → (w : Walk) → Later (int_of w a u).words v → int_of w a v ≡ there v (int_of w a u).handle
    unfolding words_after
    int_again q Dual x =
        let n = three_words (word u a) 5 q refl in
        let a1 = z.words (a + 1) (omega arith) (omega (arith, inside)) in
        let a2 = z.words (a + 2) (omega arith) (omega (arith, inside)) in
        rw (a1, a2) (make_again (int_entry (word u (a + 2)) (word u (a + 1))) g.sound (sized_of 5 1 0 (word u (a + 2) ∷ word u (a + 1) ∷ []) (omega arith) (omega arith) refl) x)
    int_again q Glb x = refl
    int_again q Lub x = refl

    float_again : kind_on u a ≡ 6 → (w : Walk) → Later (float_of w a u).words v → float_of w a v ≡ there v (float_of w a u).handle
    unfolding words_after
    float_again q Dual x =
        let n = three_words (word u a) 6 q refl in
        let a1 = z.words (a + 1) (omega arith) (omega (arith, inside)) in
        rw a1 (go (eqb (word u (a + 1)) 64) x)
      where
        go : (t : Bool) → Later (cond t (there u a) (make u (float_entry (128 - word u (a + 1)) 0))).words v
            → cond t (there v a) (make v (float_entry (128 - word u (a + 1)) 0)) ≡ there v (cond t (there u a) (make u (float_entry (128 - word u (a + 1)) 0))).handle
        go true y = refl
        go false y = make_again (float_entry (128 - word u (a + 1)) 0) g.sound (sized_of 6 1 0 ((128 - word u (a + 1)) ∷ 0 ∷ []) (omega arith) (omega arith) refl) y
    float_again q Glb x = refl
    float_again q Lub x = refl

    follow_settled : (f : Form) → form_for walk a (kind_on u a) ≡ f → Later (follow_form walk op u a f).words v → follow_form walk op v a f ≡ there v (follow_form walk op u a f).handle
    unfolding follow_form words_after walk_fields
    follow_settled (Is h) q x = refl
    follow_settled AnInt q x = int_again (form_ints walk a (kind_on u a) q) walk x
    follow_settled AFloat q x = float_again (form_floats walk a (kind_on u a) q) walk x
    follow_settled ATuple q x =
        let k7 = form_tuples walk a (kind_on u a) q in
        let ta = of_tuple g.sound p k7 in
        let n = count_on u a in
        let e = each_part op k nice u a 1 n (a + 1) g (omega (arith, p.earlier)) ta.types in
        let m = walk_elements op u a in
        let g₁ = good_adds g e.adds in
        let o = deep g.sound p (omega arith) in
        let fl = flat g.sound p in
        let hs = m.handles in
        let c : word v a ≡ word u a = z.words a some (omega (arith, inside, tuple_size (word u a) k7)) in
        let xs : every 1 n (a + 1) v ≡ every 1 n (a + 1) u = later_every z 1 n (a + 1) (omega arith) (omega (arith, inside, tuple_size (word u a) k7)) in
        let y : Later m.words v = later_then (around_later g₁ (length m.words) (depth_on u a) 1 11 o fl Tuple (length hs) hs hs e.parts (omega arith) refl) x in
        let ts : walk_elements op v a ≡ record { words = v; handles = hs } = rw (c, xs) (each_settled u (depth_on u a) (every 1 n (a + 1) u) g (parts_below (every 1 n (a + 1) u) ta.types) v y) in
        rw ts (around_again g₁ (length m.words) (depth_on u a) 1 11 o fl Tuple (length hs) hs hs e.parts (omega arith) refl v x)
    follow_settled AStruct q x =
        let k8 = form_fields walk a (kind_on u a) q in
        let sa = of_struct g.sound p k8 in
        let n = count_on u a in
        let e = each_part op k nice u a 3 n (a + 3) g (omega (arith, p.earlier)) sa.types in
        let m = walk_field_types op u a in
        let w = m.words in
        let g₁ = good_adds g e.adds in
        let up = later_adds g e.adds in
        let o = deep g.sound p (omega arith) in
        let fl = flat g.sound p in
        let hs = m.handles in
        let in-a : a + (2 + 3 * n) ≤ length u = omega (arith, inside, struct_size_is (word u a) k8) in
        let vs = every 3 (length hs) (a + 4) w in
        let same : length hs ≡ length (finals_of walk vs) = sym (finals_length walk vs ∙ every_length 3 (length hs) (a + 4) w) in
        let room : a + 2 + 3 * length hs ≤ length w = omega (arith, e.long, up.long) in
        let y : Later w v = later_then (remake_later g₁ (length w) (depth_on u a) 1 11 o fl a hs (finals_of walk vs) same e.parts some room) x in
        let c : word v a ≡ word u a = z.words a some (omega arith) in
        let xs : every 3 n (a + 3) v ≡ every 3 n (a + 3) u = later_every z 3 n (a + 3) (omega arith) (omega arith) in
        let ts : walk_field_types op v a ≡ record { words = v; handles = hs } = rw (c, xs) (each_settled u (depth_on u a) (every 3 n (a + 3) u) g (parts_below (every 3 n (a + 3) u) sa.types) v y) in
        let fs : every 3 (length hs) (a + 4) v ≡ every 3 (length hs) (a + 4) w = later_every y 3 (length hs) (a + 4) (omega arith) (omega (arith, room)) in
        rw (ts, fs) (remake_again g₁ (length w) (depth_on u a) 1 11 o fl a hs (finals_of walk vs) same e.parts some room v x)
    follow_settled APointer q x =
        let k10 = form_pointers walk a (kind_on u a) q in
        let ta = of_pointer g.sound p k10 in
        let i = three_words (word u a) 10 k10 refl in
        let a1 = z.words (a + 1) (omega arith) (omega (arith, inside)) in
        let a2 = z.words (a + 2) (omega arith) (omega (arith, inside)) in
        let t = word u (a + 1) in
        let s = op u t in
        let pt = part_weak k (depth_on u a) (omega (arith, p.earlier)) (omega arith) (narrow 1 11 ta.to (omega (arith, ta.to.least)) (omega (arith, ta.to.most))) in
        let r = nice.types u t (depth_on u a) g pt in
        let g₁ = good_adds g r.adds in
        let nil = nil_of walk (word u (a + 2)) in
        let o = deep g.sound p (omega arith) in
        let fl = flat g.sound p in
        let y = later_then (around_later g₁ (length s.words) (depth_on u a) 1 11 o fl MemPtr 0 (s.handle ∷ []) (s.handle ∷ nil ∷ []) (r.part, tt) (omega arith) refl) x in
        let e : op v t ≡ there v s.handle = settles u t (depth_on u a) g pt v y in
        rw (a1, a2, e) (around_again g₁ (length s.words) (depth_on u a) 1 11 o fl MemPtr 0 (s.handle ∷ []) (s.handle ∷ nil ∷ []) (r.part, tt) (omega arith) refl v x)
    follow_settled AMemory q x =
        let k11 = form_memories walk a (kind_on u a) q p.most in
        let ta = of_memory g.sound p k11 in
        let i = three_words (word u a) 11 k11 refl in
        let a1 = z.words (a + 1) (omega arith) (omega (arith, inside)) in
        let a2 = z.words (a + 2) (omega arith) (omega (arith, inside)) in
        let t = word u (a + 2) in
        let s = op u t in
        let pt = part_weak k (depth_on u a) (omega (arith, p.earlier)) (omega arith) ta.to in
        let r = nice.types u t (depth_on u a) g pt in
        let g₁ = good_adds g r.adds in
        let alias = word u (a + 1) in
        let o = deep g.sound p (omega arith) in
        let fl = flat g.sound p in
        let y = later_then (around_later g₁ (length s.words) (depth_on u a) 1 11 o fl Mem 0 (s.handle ∷ []) (alias ∷ s.handle ∷ []) (r.part, tt) (omega arith) refl) x in
        let e : op v t ≡ there v s.handle = settles u t (depth_on u a) g pt v y in
        rw (a1, a2, e) (around_again g₁ (length s.words) (depth_on u a) 1 11 o fl Mem 0 (s.handle ∷ []) (alias ∷ s.handle ∷ []) (r.part, tt) (omega arith) refl v x)

-- at every n above the handle
pub walk_settled : (walk : Walk) (n : ℕ) → Settles₁ n (walk_within walk n)
unfolding walk_within
walk_settled walk zero u a d g p v x = absurd (omega (arith, p.earlier))
walk_settled walk (suc n) u a d g p v x =
    let z : Later u v = later_then (later_adds g ((walk_nice walk (suc n)).types u a d g p).adds) x in
    let i = part_inside g p in
    let c : word v a ≡ word u a = z.words a i.0 (omega (arith, i.1, size_pos (word u a))) in
    rw c (follow_settled (walk_within walk n) n (walk_nice walk n) (walk_settled walk n) walk u a d g p v z (form_for walk a (kind_on u a)) refl x)
