-- Names, and the rule that decides for two structs, read the same in later used words. Assumes nothing.
use mathlib.Core.Path.{◌≡◌, refl, ap}
use mathlib.Core.Bool.{Bool, true, false, ◌&&◌}
use mathlib.Core.Logic.{◌⊎◌, inl, inr, ⊎_elim}
use mathlib.Core.List.{List, [], ◌∷◌}
use Prim.Native.Nat.{ℕ, zero, suc, pred, ◌+◌, ◌*◌, ◌≤◌}
use native.Mathlib.Omega.{arith}
use borrow.Author.Tests.{eqb-true, eqb-false}
use lib.Dec.{eqb}
use lib.ListN.{length}
use Rattle.words.specs.Words.{size_of}
use Rattle.words.proofs.Walk.{size_pos}
use Rattle.words.proofs.Sizes.{struct_size_is, fref_size}
use Rattle.words.specs.Columns.{every, word, kind_on, count_on}
use Rattle.parts.specs.Parts.{Good, Part, NameAt, All}
use Rattle.parts.proofs.Parts.{no_fields, of_struct, of_fref}
use Rattle.later.specs.Later.{Later}
use Rattle.later.proofs.Later.{part_inside}
use Rattle.meet_rules.specs.Names.{same_words, same_name, same_fields}
use Rattle.meet_rules.specs.Rules.{named_rule, struct_rule}

-- the entry at h stands within the used words
abbrev pub Whole : List ℕ → ℕ → Type 0
Whole u h = (1 ≤ h) × (h + size_of (word u h) ≤ length u)

name_whole : {u : List ℕ} → Good u → {k h : ℕ} → NameAt u k h → Whole u h
name_whole {u} g {k} {h} n =
    let p : Part u k 256 0 0 h = record { entry = n.entry; earlier = n.earlier; least = omega arith; most = omega (arith, n.kind); shallow = omega arith } in
    part_inside g p

names_whole : {u : List ℕ} → Good u → (k : ℕ) (hs : List ℕ) → All (NameAt u k) hs → All (Whole u) hs
names_whole g k [] a = tt
names_whole g k (h ∷ hs) a = (name_whole g a.0, names_whole g k hs a.1)

-- a struct or a forward reference: its name, its fields' names, and where they stand
pub record NamedAt (u : List ℕ) (x : ℕ) : Type 0 where
  pub some : 1 ≤ x
  pub inside : x + (2 + 3 * count_on u x) ≤ length u
  pub name : Whole u (word u (x + 1))
  pub names : All (Whole u) (every 3 (count_on u x) (x + 2) u)

-- the kind of a struct, or of a forward reference
pub either : (n : ℕ) → 8 ≤ n → n ≤ 9 → (n ≡ 8) ⊎ (n ≡ 9)
either n l h = go (eqb n 8) refl
  where
    go : (t : Bool) → eqb n 8 ≡ t → (n ≡ 8) ⊎ (n ≡ 9)
    go true e = inl (eqb-true n 8 e)
    go false e = inr (omega (arith, eqb-false n 8 e))

pub named_at : {u : List ℕ} → Good u → {k d x : ℕ} → Part u k d 8 9 x → NamedAt u x
unfolding every
named_at {u} g {k} {d} {x} p = ⊎_elim struct fref (either (kind_on u x) p.least p.most)
  where
    struct : kind_on u x ≡ 8 → NamedAt u x
    struct q =
        let s = of_struct g.sound p q in
        let i = part_inside g p in
        record { some = i.0; inside = omega (arith, i.1, struct_size_is (word u x) q); name = name_whole g s.name; names = names_whole g x (every 3 (count_on u x) (x + 2) u) s.names }

    fref : kind_on u x ≡ 9 → NamedAt u x
    fref q =
        let i = part_inside g p in
        let n = no_fields g.sound p q in
        record { some = i.0; inside = omega (arith, i.1, n, fref_size (word u x) q); name = name_whole g (of_fref g.sound p q); names = rw n tt }

module _ {u v : List ℕ} (x : Later u v) where
  words_same : (n p q : ℕ) → 1 ≤ p → 1 ≤ q → p + n ≤ length u → q + n ≤ length u → same_words v n p q ≡ same_words u n p q
  unfolding same_words
  words_same zero p q lp lq a b = refl
  words_same (suc n) p q lp lq a b =
      let e = x.words p lp (omega arith) in
      let f = x.words q lq (omega arith) in
      let r = words_same n (p + 1) (q + 1) (omega arith) (omega arith) (omega arith) (omega arith) in
      rw (e, f, r)

  -- the heads tell two names of other lengths apart
  name_same : (p q : ℕ) → Whole u p → Whole u q → same_name v p q ≡ same_name u p q
  unfolding same_words
  name_same p q a b =
      let e = x.words p a.0 (omega (arith, a.1, size_pos (word u p))) in
      let f = x.words q b.0 (omega (arith, b.1, size_pos (word u q))) in
      let n : size_of (word u p) ≡ suc (pred (size_of (word u p))) = omega (arith, size_pos (word u p)) in
      rw (e, n, e, f) (go (eqb (word u p) (word u q)) refl)
    where
      m : ℕ
      m = pred (size_of (word u p))

      go : (t : Bool) → eqb (word u p) (word u q) ≡ t → (t && same_words v (pred (size_of (word u p))) (p + 1) (q + 1)) ≡ (t && same_words u (pred (size_of (word u p))) (p + 1) (q + 1))
      go true h =
          let s : size_of (word u p) ≡ size_of (word u q) = ap size_of (eqb-true (word u p) (word u q) h) in
          words_same (pred (size_of (word u p))) (p + 1) (q + 1) (omega arith) (omega arith) (omega (arith, a.1, size_pos (word u p))) (omega (arith, b.1, s, size_pos (word u p)))
      go false h = refl

  fields_same : (n p q : ℕ) → 1 ≤ p → 1 ≤ q → p + 3 * n ≤ length u → q + 3 * n ≤ length u → All (Whole u) (every 3 n p u) → All (Whole u) (every 3 n q u) → same_fields v n p q ≡ same_fields u n p q
  unfolding same_fields every
  fields_same zero p q lp lq a b c d = refl
  fields_same (suc n) p q lp lq a b c d =
      let e = x.words p lp (omega arith) in
      let f = x.words q lq (omega arith) in
      let g = x.words (p + 2) (omega arith) (omega arith) in
      let h = x.words (q + 2) (omega arith) (omega arith) in
      let i = name_same (word u p) (word u q) c.0 d.0 in
      let r = fields_same n (p + 3) (q + 3) (omega arith) (omega arith) (omega arith) (omega arith) c.1 d.1 in
      rw (e, f, g, h, i, r)

  module _ (a b : ℕ) (na : NamedAt u a) (nb : NamedAt u b) where
    named_same : named_rule v a b ≡ named_rule u a b
    unfolding named_rule
    named_same = go (eqb (count_on u a) (count_on u b)) refl
      where
        ca : word v a ≡ word u a
        ca = x.words a na.some (omega (arith, na.inside))

        cb : word v b ≡ word u b
        cb = x.words b nb.some (omega (arith, nb.inside))

        wa : word v (a + 1) ≡ word u (a + 1)
        wa = x.words (a + 1) (omega arith) (omega (arith, na.inside))

        wb : word v (b + 1) ≡ word u (b + 1)
        wb = x.words (b + 1) (omega arith) (omega (arith, nb.inside))

        nm : same_name v (word u (a + 1)) (word u (b + 1)) ≡ same_name u (word u (a + 1)) (word u (b + 1))
        nm = name_same (word u (a + 1)) (word u (b + 1)) na.name nb.name

        go : (t : Bool) → eqb (count_on u a) (count_on u b) ≡ t → named_rule v a b ≡ named_rule u a b
        go true e =
            let n : count_on u a ≡ count_on u b = eqb-true (count_on u a) (count_on u b) e in
            let ns : All (Whole u) (every 3 (count_on u a) (b + 2) u) = rw n nb.names in
            let fs = fields_same (count_on u a) (a + 2) (b + 2) (omega arith) (omega arith) (omega (arith, na.inside)) (omega (arith, nb.inside, n)) na.names ns in
            rw (ca, cb, wa, wb, nm, fs)
        go false e = rw (ca, cb, wa, wb, nm, e)

    pub struct_rule_same : struct_rule v a b ≡ struct_rule u a b
    unfolding struct_rule
    struct_rule_same = rw named_same
