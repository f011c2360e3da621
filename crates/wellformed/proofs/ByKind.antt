-- Each way through `entry` gives what `ok_entry` says. Assumes nothing.
use mathlib.Core.Path.{◌≡◌, refl, sym, ap, ◌∙◌}
use mathlib.Core.Bool.{Bool, true, false, cond, ◌&&◌, ◌||◌}
use mathlib.Core.Logic.{◌⊎◌, ⊎_elim}
use Rattle.std.proofs.Common.{Option, Some, None}
use mathlib.Core.List.{List, [], ◌∷◌}
use Prim.Native.Nat.{ℕ, zero, suc, ◌+◌, ◌-◌, ◌≤◌, ◌<◌, ◌%◌, ◌/◌, max}
use native.Mathlib.Omega.{arith}
use native.Mathlib.Numerals.{add-one}
use borrow.Author.Tests.{ne_eqb, le-leb, lt-leb}
use lib.Dec.{eqb, leb}
use lib.ListN.{length, take, drop, get_or, length-drop, drop_of_length-le}
use lib.Seq.{take_all, drop-cons}
use Rattle.words.specs.Words.{kind_of, depth_of}
use Rattle.wellformed.specs.Entry.{kind, depth, count, takes, depth_for, kind_at, is_name, is_type, is_struct, is_alias_final, all, deepest, most_of, names_in, types_in, float_ok, zero_filled, values_ok, ok_entry}
use Rattle.words.specs.Columns.{every}
use Rattle.wellformed.specs.Scan.{head_depth, part_depth, parts_depth, fields_depth, one_over}
use Rattle.std.proofs.Math.Bool.{and-false, and-true}

-- a tuple's elements are all the words behind its head
pub every_one : (n p : ℕ) (e : List ℕ) → length e ≡ p + n → every 1 n p e ≡ drop p e
unfolding every
every_one zero p e h = let l : length e ≤ p = omega arith in sym (drop_of_length-le e l)
every_one (suc n) p e h =
    let l : p < length e = omega arith in
    rw (drop-cons e p 0 l, every_one n (p + 1) e (omega arith), add-one)

-- all but the first word, as the code lends it
rest : (e : List ℕ) → take (length e - 1) (drop 1 e) ≡ drop 1 e
rest e = take_all (length e - 1) (drop 1 e) (omega (arith, length-drop 1 e))

most_le : (k : ℕ) → most_of k ≤ 255
unfolding most_of
most_le k = go (eqb k 0 || eqb k 7 || eqb k 8)
  where
    go : (t : Bool) → cond t 255 0 ≤ 255
    go true = omega arith
    go false = omega arith

-- ---- what the depth test says

above_part : (heads : ℕ → ℕ) (p : ℕ → Bool) (h d : ℕ) → one_over d (part_depth heads p h) ≡ ((p (kind_of (heads h)) && true) && eqb d (1 + deepest heads (h ∷ [])))
unfolding one_over head_depth deepest
above_part heads p h d = let m : max (depth_of (heads h)) 0 ≡ depth_of (heads h) = omega arith in rw m (go (p (kind_of (heads h))))
  where
    go : (t : Bool) → one_over d (cond t (Some (depth_of (heads h))) None) ≡ ((t && true) && eqb d (1 + depth_of (heads h)))
    go true = refl
    go false = refl

above_deep : (heads : ℕ → ℕ) (d : ℕ) (hs : List ℕ) → one_over d (parts_depth heads 0 hs) ≡ (all (kind_at heads is_type) hs && eqb d (1 + deepest heads hs))
unfolding one_over parts_depth
above_deep heads d hs = let m : max 0 (deepest heads hs) ≡ deepest heads hs = omega arith in rw m (go (all (kind_at heads is_type) hs))
  where
    go : (t : Bool) → one_over d (cond t (Some (deepest heads hs)) None) ≡ (t && eqb d (1 + deepest heads hs))
    go true = refl
    go false = refl

above_cond : (d : ℕ) (t : Bool) (g : Option ℕ) → one_over d (cond t g None) ≡ (t && one_over d g)
unfolding one_over
above_cond d true g = refl
above_cond d false g = refl

above_fields : (heads : ℕ → ℕ) (d n : ℕ) (e : List ℕ) → one_over d (fields_depth heads 0 n 2 e)
    ≡ ((all (kind_at heads is_name) (every 3 n 2 e) && all is_alias_final (every 3 n 4 e)) && (all (kind_at heads is_type) (every 3 n 3 e) && eqb d (1 + deepest heads (every 3 n 3 e))))
unfolding fields_depth
above_fields heads d n e =
    above_cond d (all (kind_at heads is_name) (every 3 n 2 e) && all is_alias_final (every 3 n 4 e)) (parts_depth heads 0 (every 3 n 3 e))
    ∙ rw (above_deep heads d (every 3 n 3 e))

trues : (a r : Bool) → r ≡ a → r ≡ ((a && true) && true)
trues true r e = e
trues false r e = e

-- the clauses of `ok_entry`, shut, so that each can be named by its place
seven : Bool → Bool → Bool → Bool → Bool → Bool → Bool → Bool
seven k n c t d l v = k && n && c && t && d && l && v

clauses : (heads : ℕ → ℕ) (e : List ℕ)
    → ok_entry heads e ≡ seven (leb (kind e) 11) (leb (count e) (most_of (kind e))) (all (kind_at heads is_name) (names_in e)) (all (kind_at heads (takes (kind e))) (types_in e)) (eqb (depth e) (depth_for heads e)) (leb (depth e) 32) (values_ok e)
unfolding ok_entry seven
clauses heads e = refl

no_depth : (k n c t d l v : Bool) → l ≡ false → false ≡ seven k n c t d l v
unfolding seven
no_depth k n c t d l v e = rw e (go (k && n && c && t && d))
  where
    go : (a : Bool) → false ≡ ((a && false) && v)
    go true = refl
    go false = refl

no_value : (k n c t d l v : Bool) → v ≡ false → false ≡ seven k n c t d l v
unfolding seven
no_value k n c t d l v e = rw e (sym (and-false (k && n && c && t && d && l)))

fields_right : (k n c t d l v c' r : Bool) → k ≡ true → n ≡ true → c ≡ c' → l ≡ true → r ≡ ((c' && v) && (t && d)) → r ≡ seven k n c t d l v
unfolding seven
fields_right k n c t d l v c' r ek en ec el e = rw (ek, en, ec, el) (go c' v t e)
  where
    go : (n v t : Bool) → r ≡ ((n && v) && (t && d)) → r ≡ ((((n && t) && d) && true) && v)
    go true true true e = e ∙ sym (and-true (d && true) ∙ and-true d)
    go true true false e = e
    go true false true e = e ∙ sym (and-false (d && true))
    go true false false e = e
    go false v t e = e

module _ (heads : ℕ → ℕ) (e : List ℕ) where
  pub many : 255 < get_or e 0 0 / 65536 → false ≡ ok_entry heads e
  unfolding ok_entry
  many h = let l : most_of (get_or e 0 0 % 256) < get_or e 0 0 / 65536 = omega (arith, most_le (get_or e 0 0 % 256)) in rw (lt-leb _ _ l, and-false (leb (get_or e 0 0 % 256) 11))

  module _ (few : get_or e 0 0 / 65536 ≤ 255) where
    pub too_deep_is : 32 < get_or e 0 0 / 256 % 256 → false ≡ ok_entry heads e
    too_deep_is h = no_depth _ _ _ _ _ _ _ (lt-leb _ _ h) ∙ sym (clauses heads e)

    module _ (low : get_or e 0 0 / 256 % 256 ≤ 32) where
      pub deep_name : get_or e 0 0 % 256 ≡ 0 → (get_or e 0 0 / 256 % 256 ≡ 0 → ⊥) → false ≡ ok_entry heads e
      unfolding ok_entry most_of names_in types_in all
      deep_name k d = rw (k, le-leb _ _ few, ne_eqb _ _ d)

      pub a_name : (r : Bool) → get_or e 0 0 % 256 ≡ 0 → get_or e 0 0 / 256 % 256 ≡ 0 → r ≡ zero_filled e → r ≡ ok_entry heads e
      unfolding ok_entry most_of names_in types_in all values_ok
      a_name r k d p = rw (k, le-leb _ _ few, d) p

      pub a_tuple : length e ≡ 1 + get_or e 0 0 / 65536 → get_or e 0 0 % 256 ≡ 7 → (g : Option ℕ) → g ≡ parts_depth heads 0 (take (length e - 1) (drop 1 e)) → (r : Bool) → r ≡ one_over (get_or e 0 0 / 256 % 256) g → r ≡ ok_entry heads e
      unfolding ok_entry most_of names_in types_in all values_ok
      a_tuple len k g is r a =
          let n = get_or e 0 0 / 65536 in
          let q : r ≡ (all (kind_at heads is_type) (every 1 n 1 e) && eqb (get_or e 0 0 / 256 % 256) (1 + deepest heads (every 1 n 1 e))) =
          a ∙ ap (one_over (get_or e 0 0 / 256 % 256)) (is ∙ ap (parts_depth heads 0) (rest e ∙ sym (every_one n 1 e len))) ∙ above_deep heads (get_or e 0 0 / 256 % 256) (every 1 n 1 e) in
          rw (k, le-leb _ _ few, le-leb _ _ low) (trues _ r q)

      pub struct_unnamed : get_or e 0 0 % 256 ≡ 8 → (t : Bool) → t ≡ kind_at heads is_name (get_or e 1 0) → t ≡ false → false ≡ ok_entry heads e
      unfolding ok_entry most_of names_in all
      struct_unnamed k t is n = let f : kind_at heads is_name (get_or e 1 0) ≡ false = sym is ∙ n in rw (k, le-leb _ _ few, f)

      pub a_struct : get_or e 0 0 % 256 ≡ 8 → (t : Bool) → t ≡ kind_at heads is_name (get_or e 1 0) → t ≡ true → (f : Option ℕ) → f ≡ fields_depth heads 0 (get_or e 0 0 / 65536) 2 e → (r : Bool) → r ≡ one_over (get_or e 0 0 / 256 % 256) f → r ≡ ok_entry heads e
      unfolding most_of names_in types_in all values_ok
      a_struct k t it y f is r a =
          let names : all (kind_at heads is_name) (names_in e) ≡ all (kind_at heads is_name) (every 3 (get_or e 0 0 / 65536) 2 e) = let n : kind_at heads is_name (get_or e 1 0) ≡ true = sym it ∙ y in rw (k, n) in
          let few' : leb (get_or e 0 0 / 65536) (most_of (get_or e 0 0 % 256)) ≡ true = rw (k, le-leb _ _ few) in
          let right : r ≡ ((all (kind_at heads is_name) (every 3 (get_or e 0 0 / 65536) 2 e) && values_ok e) && (all (kind_at heads (takes (kind e))) (types_in e) && eqb (depth e) (depth_for heads e))) =
          rw k (a ∙ ap (one_over (get_or e 0 0 / 256 % 256)) is ∙ above_fields heads (get_or e 0 0 / 256 % 256) (get_or e 0 0 / 65536) e) in
          fields_right _ _ _ _ _ _ _ _ r (rw k) few' names (le-leb _ _ low) right ∙ sym (clauses heads e)

      module _ (k0 : get_or e 0 0 % 256 ≡ 0 → ⊥) (k7 : get_or e 0 0 % 256 ≡ 7 → ⊥) (k8 : get_or e 0 0 % 256 ≡ 8 → ⊥) where
        pub counted : (get_or e 0 0 / 65536 ≡ 0 → ⊥) → false ≡ ok_entry heads e
        unfolding ok_entry most_of
        counted n = let l : 0 < get_or e 0 0 / 65536 = omega arith in rw (ne_eqb _ _ k0, ne_eqb _ _ k7, ne_eqb _ _ k8, lt-leb _ _ l, and-false (leb (get_or e 0 0 % 256) 11))

        module _ (n0 : get_or e 0 0 / 65536 ≡ 0) where
          pub plain : get_or e 0 0 % 256 ≤ 5 → eqb (get_or e 0 0 / 256 % 256) 1 ≡ ok_entry heads e
          unfolding ok_entry most_of names_in types_in all values_ok deepest
          plain k =
              let l : get_or e 0 0 % 256 ≤ 11 = omega arith in
              let k6 : get_or e 0 0 % 256 ≡ 6 → ⊥ = (λ q. omega arith) in
              let k9 : get_or e 0 0 % 256 ≡ 9 → ⊥ = (λ q. omega arith) in
              let k10 : get_or e 0 0 % 256 ≡ 10 → ⊥ = (λ q. omega arith) in
              let k11 : get_or e 0 0 % 256 ≡ 11 → ⊥ = (λ q. omega arith) in
              rw (n0, le-leb _ _ l, ne_eqb _ _ k0, ne_eqb _ _ k7, ne_eqb _ _ k8, ne_eqb _ _ k6, ne_eqb _ _ k9, ne_eqb _ _ k10, ne_eqb _ _ k11, le-leb _ _ low) (trues _ _ refl)

          pub a_float : get_or e 0 0 % 256 ≡ 6 → (t : Bool) → t ≡ float_ok (get_or e 1 0) (get_or e 2 0) → t ≡ true → eqb (get_or e 0 0 / 256 % 256) 1 ≡ ok_entry heads e
          unfolding ok_entry most_of names_in types_in all values_ok deepest
          a_float k t is y = rw (k, n0, le-leb _ _ low, sym is ∙ y) (trues _ _ refl)

          pub no_float : get_or e 0 0 % 256 ≡ 6 → (t : Bool) → t ≡ float_ok (get_or e 1 0) (get_or e 2 0) → t ≡ false → false ≡ ok_entry heads e
          unfolding values_ok
          no_float k t is y = no_value _ _ _ _ _ _ _ (rw k (sym is ∙ y)) ∙ sym (clauses heads e)

          pub fref_unnamed : get_or e 0 0 % 256 ≡ 9 → (t : Bool) → t ≡ kind_at heads is_name (get_or e 1 0) → t ≡ false → false ≡ ok_entry heads e
          unfolding ok_entry most_of names_in all
          fref_unnamed k t is n = let f : kind_at heads is_name (get_or e 1 0) ≡ false = sym is ∙ n in rw (k, n0, f)

          pub a_fref : get_or e 0 0 % 256 ≡ 9 → (t : Bool) → t ≡ kind_at heads is_name (get_or e 1 0) → t ≡ true → eqb (get_or e 0 0 / 256 % 256) 1 ≡ ok_entry heads e
          unfolding ok_entry most_of names_in types_in all values_ok deepest
          a_fref k t is y = let n : kind_at heads is_name (get_or e 1 0) ≡ true = sym is ∙ y in rw (k, n0, n, le-leb _ _ low) (trues _ _ refl)

          pub bad_nil : get_or e 0 0 % 256 ≡ 10 → 1 < get_or e 2 0 → false ≡ ok_entry heads e
          unfolding values_ok
          bad_nil k v = no_value _ _ _ _ _ _ _ (rw (k, lt-leb _ _ v)) ∙ sym (clauses heads e)

          pub a_pointer : get_or e 0 0 % 256 ≡ 10 → get_or e 2 0 ≤ 1 → (g : Option ℕ) → g ≡ part_depth heads is_struct (get_or e 1 0) → (r : Bool) → r ≡ one_over (get_or e 0 0 / 256 % 256) g → r ≡ ok_entry heads e
          unfolding ok_entry most_of names_in types_in all values_ok
          a_pointer k v g is r a =
              rw (k, n0, le-leb _ _ low, le-leb _ _ v) (trues _ r (a ∙ ap (one_over (get_or e 0 0 / 256 % 256)) is ∙ above_part heads is_struct (get_or e 1 0) (get_or e 0 0 / 256 % 256)))

          pub bad_alias : get_or e 0 0 % 256 ≡ 11 → 4294967295 < get_or e 1 0 → false ≡ ok_entry heads e
          unfolding values_ok
          bad_alias k v = no_value _ _ _ _ _ _ _ (rw (k, lt-leb _ _ v)) ∙ sym (clauses heads e)

          pub a_memory : get_or e 0 0 % 256 ≡ 11 → get_or e 1 0 ≤ 4294967295 → (g : Option ℕ) → g ≡ part_depth heads is_type (get_or e 2 0) → (r : Bool) → r ≡ one_over (get_or e 0 0 / 256 % 256) g → r ≡ ok_entry heads e
          unfolding ok_entry most_of names_in types_in all values_ok
          a_memory k v g is r a =
              rw (k, n0, le-leb _ _ low, le-leb _ _ v) (trues _ r (a ∙ ap (one_over (get_or e 0 0 / 256 % 256)) is ∙ above_part heads is_type (get_or e 2 0) (get_or e 0 0 / 256 % 256)))

          pub other_kind : 11 < get_or e 0 0 % 256 → false ≡ ok_entry heads e
          unfolding ok_entry
          other_kind l = rw (lt-leb _ _ l)

pub too_large : (heads : ℕ → ℕ) (e : List ℕ) → (255 < get_or e 0 0 / 65536) ⊎ ((get_or e 0 0 / 65536 ≤ 255) × (32 < get_or e 0 0 / 256 % 256)) → false ≡ ok_entry heads e
too_large heads e = ⊎_elim (many heads e) (λ (h : (get_or e 0 0 / 65536 ≤ 255) × (32 < get_or e 0 0 / 256 % 256)). too_deep_is heads e h.0 h.1)
