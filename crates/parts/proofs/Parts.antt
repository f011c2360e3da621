-- The parts of an entry, by its kind, read off the used words. Assumes nothing.
use mathlib.Core.Path.{◌≡◌, refl, sym, ap, ◌∙◌}
use mathlib.Core.Bool.{Bool, true, false, cond, ◌||◌}
use mathlib.Core.List.{List, [], ◌∷◌}
use Prim.Native.Nat.{ℕ, suc, ◌+◌, ◌^◌, ◌≤◌, ◌<◌}
use native.Mathlib.Omega.{arith}
use borrow.Author.Tests.{ne_eqb}
use lib.Dec.{eqb}
use lib.ListN.{get_or}
use Rattle.words.specs.Words.{kind_of, depth_of, count_of}
use Rattle.words.specs.Table.{Row, entries, starts, RowIn}
use Rattle.wellformed.specs.Entry.{kind, depth, count, most_of, names_in, types_in, is_type, is_struct, takes, kind_in, kind_at, is_flag, is_alias, is_alias_final, float_ok, all, deepest, values_ok}
use Rattle.words.specs.Columns.{every, word, kind_on, depth_on, count_on}
use Rattle.wellformed.specs.Form.{heads_at}
use Rattle.wellformed.proofs.Sizes.{tuple_in, struct_in, fref_name, int_2, float_2, pointer_2, memory_2}
use Rattle.call.specs.Keep.{Ends}
use Rattle.call.specs.Adds.{Sound}
use Rattle.words.proofs.Handles.{at_row}
use Rattle.parts.specs.Parts.{Part, NameAt, All}
use Rattle.parts.proofs.Spot.{entry_head, row_sized, row_word, row_every}
use Rattle.parts.proofs.Checked.{Tested, tested, parts, names, row_checked}

-- the tuple, struct, pointer, memory or float at a
pub record TupleAt (u : List ℕ) (a : ℕ) : Type 0 where
  pub types : All (Part u a (depth_on u a) 1 11) (every 1 (count_on u a) (a + 1) u)

pub record StructAt (u : List ℕ) (a : ℕ) : Type 0 where
  pub name : NameAt u a (word u (a + 1))
  pub names : All (NameAt u a) (every 3 (count_on u a) (a + 2) u)
  pub types : All (Part u a (depth_on u a) 1 11) (every 3 (count_on u a) (a + 3) u)
  pub values : all is_alias_final (every 3 (count_on u a) (a + 4) u) ≡ true

pub record PointerAt (u : List ℕ) (a : ℕ) : Type 0 where
  pub to : Part u a (depth_on u a) 8 9 (word u (a + 1))
  pub flag : is_flag (word u (a + 2)) ≡ true

pub record MemoryAt (u : List ℕ) (a : ℕ) : Type 0 where
  pub alias : is_alias (word u (a + 1)) ≡ true
  pub to : Part u a (depth_on u a) 1 11 (word u (a + 2))

pub all_map : {P Q : ℕ → Type 0} → ((x : ℕ) → P x → Q x) → (xs : List ℕ) → All P xs → All Q xs
all_map f [] a = tt
all_map f (x ∷ xs) a = (f x a.0, all_map f xs a.1)

most_le : (k : ℕ) → most_of k ≤ 255
unfolding most_of
most_le k = go (eqb k 0 || eqb k 7 || eqb k 8)
  where
    go : (t : Bool) → cond t 255 0 ≤ 255
    go true = omega arith
    go false = omega arith

module _ (u : List ℕ) (s : Sound u) (r : Row) (m : RowIn r (entries u)) where
  abbrev a : ℕ
  a = r.at

  abbrev e : List ℕ
  e = r.words

  head : word u a ≡ get_or e 0 0
  head = entry_head u r m

  start : ℕ → Bool
  start = (row_checked u s r m).start

  earlier : (h : ℕ) → start h ≡ true → (h < a) × (starts u h ≡ true)
  unfolding start
  earlier = (row_checked u s r m).earlier

  t : Tested (heads_at start u) e
  unfolding start
  t = tested (heads_at (row_checked u s r m).start u) e (row_checked u s r m).ok

  row_few : count_on u a ≤ 255
  row_few = omega (arith, t.few, most_le (kind e), ap count_of head)

  row_flat : depth_on u a ≤ 32
  row_flat = omega (arith, t.flat, ap depth_of head)

  row_plain : kind_on u a ≡ 9 → count_on u a ≡ 0
  unfolding most_of
  row_plain q =
      let k : kind e ≡ 9 = ap kind_of (sym head) ∙ q in
      let f : count e ≤ 0 = rw k at t.few in
      omega (arith, ap count_of head)

  -- an entry that is no name is deeper than its types
  above : 1 ≤ kind_on u a → (1 ≤ depth_on u a) × (deepest (heads_at start u) (types_in e) < depth_on u a)
  above l =
      let k : (kind e ≡ 0 → ⊥) = λ z. absurd (omega (arith, ap kind_of head)) in
      let d : depth e ≡ 1 + deepest (heads_at start u) (types_in e) = rw (ne_eqb (kind e) 0 k) at t.deep in
      (omega (arith, ap depth_of head), omega (arith, ap depth_of head))

  module _ (k : ℕ) (q : kind_on u a ≡ k) where
    is : kind e ≡ k
    is = ap kind_of (sym head) ∙ q

    types_of : (low high : ℕ) → 1 ≤ k → high < 255 → takes k ≡ kind_in low high → All (Part u a (depth_on u a) low high) (types_in e)
    types_of low high l h p =
        let ty : all (kind_at (heads_at start u) (kind_in low high)) (types_in e) ≡ true = rw (is, p) at t.typed in
        parts start u low high a (depth_on u a) h earlier (types_in e) ty (above (omega (arith, q))).1

    names_of : All (NameAt u a) (names_in e)
    names_of = names start u a earlier (names_in e) t.named

  -- its types are earlier entries, whatever its kind
  pub types_earlier : All (λ h. h < a) (types_in e)
  types_earlier = go (eqb (kind e) 10) t.typed
    where
      d : ℕ
      d = suc (deepest (heads_at start u) (types_in e))

      go : (b : Bool) → all (kind_at (heads_at start u) (cond b is_struct is_type)) (types_in e) ≡ true → All (λ h. h < a) (types_in e)
      go true q = all_map (λ h p. p.earlier) (types_in e) (parts start u 8 9 a d (omega arith) earlier (types_in e) q (omega arith))
      go false q = all_map (λ h p. p.earlier) (types_in e) (parts start u 1 11 a d (omega arith) earlier (types_in e) q (omega arith))

  row_tuple : kind_on u a ≡ 7 → TupleAt u a
  unfolding types_in
  row_tuple q =
      let k = is 7 q in
      let l = tuple_in e (row_sized u s r m) k in
      let p : All (Part u a (depth_on u a) 1 11) (every 1 (count e) 1 e) = rw k at (types_of 7 q 1 11 (omega arith) (omega arith) refl) in
      record { types = rw (row_every u s r m 1 (count_on u a) 1 (a + 1) refl (omega (arith, l, ap count_of head)), ap count_of head) p }

  row_struct : kind_on u a ≡ 8 → StructAt u a
  unfolding types_in names_in values_ok
  row_struct q =
      let k = is 8 q in
      let c = ap count_of head in
      let l = struct_in e (row_sized u s r m) k in
      let ns : All (NameAt u a) (get_or e 1 0 ∷ every 3 (count e) 2 e) = rw k at names_of 8 q in
      let ts : All (Part u a (depth_on u a) 1 11) (every 3 (count e) 3 e) = rw k at (types_of 8 q 1 11 (omega arith) (omega arith) refl) in
      let vs : all is_alias_final (every 3 (count e) 4 e) ≡ true = rw k at t.values in
      record {
        name = rw (row_word u s r m 1 (omega (arith, l))) ns.0;
        names = rw (row_every u s r m 3 (count_on u a) 2 (a + 2) refl (omega (arith, l, c)), c) ns.1;
        types = rw (row_every u s r m 3 (count_on u a) 3 (a + 3) refl (omega (arith, l, c)), c) ts;
        values = rw (row_every u s r m 3 (count_on u a) 4 (a + 4) refl (omega (arith, l, c)), c) vs;
      }

  row_fref : kind_on u a ≡ 9 → NameAt u a (word u (a + 1))
  unfolding names_in
  row_fref q =
      let k = is 9 q in
      let ns : All (NameAt u a) (get_or e 1 0 ∷ []) = rw k at names_of 9 q in
      rw (row_word u s r m 1 (fref_name e (row_sized u s r m) k)) ns.0

  row_pointer : kind_on u a ≡ 10 → PointerAt u a
  unfolding types_in values_ok
  row_pointer q =
      let k = is 10 q in
      let l = pointer_2 e (row_sized u s r m) k in
      let ts : All (Part u a (depth_on u a) 8 9) (get_or e 1 0 ∷ []) = rw k at (types_of 10 q 8 9 (omega arith) (omega arith) refl) in
      let vs : is_flag (get_or e 2 0) ≡ true = rw k at t.values in
      record { to = rw (row_word u s r m 1 (omega arith)) ts.0; flag = rw (row_word u s r m 2 l) vs }

  row_memory : kind_on u a ≡ 11 → MemoryAt u a
  unfolding types_in values_ok
  row_memory q =
      let k = is 11 q in
      let l = memory_2 e (row_sized u s r m) k in
      let ts : All (Part u a (depth_on u a) 1 11) (get_or e 2 0 ∷ []) = rw k at (types_of 11 q 1 11 (omega arith) (omega arith) refl) in
      let vs : is_alias (get_or e 1 0) ≡ true = rw k at t.values in
      record { to = rw (row_word u s r m 2 l) ts.0; alias = rw (row_word u s r m 1 (omega arith)) vs }

  row_float : kind_on u a ≡ 6 → float_ok (word u (a + 1)) (word u (a + 2)) ≡ true
  unfolding values_ok
  row_float q =
      let k = is 6 q in
      let l = float_2 e (row_sized u s r m) k in
      let vs : float_ok (get_or e 1 0) (get_or e 2 0) ≡ true = rw k at t.values in
      rw (row_word u s r m 1 (omega arith), row_word u s r m 2 l) vs

  row_int : kind_on u a ≡ 5 → Ends (entries u) → (word u (a + 1) < 2 ^ 64) × (word u (a + 2) < 2 ^ 64)
  row_int q ends =
      let k = is 5 q in
      let l = int_2 e (row_sized u s r m) k in
      let v = ends r m k in
      (rw (row_word u s r m 1 (omega arith)) v.0, rw (row_word u s r m 2 l) v.1)

-- ---- the entry of a part

module _ {u : List ℕ} (s : Sound u) {top d low high h : ℕ} (p : Part u top d low high h) where
  abbrev found : (r : Row) × (RowIn r (entries u)) × (r.at ≡ h)
  found = at_row (entries u) h p.entry

  pub few : count_on u h ≤ 255
  few = rw found.2 at (row_few u s found.0 found.1)

  pub flat : depth_on u h ≤ 32
  flat = rw found.2 at (row_flat u s found.0 found.1)

  pub no_fields : kind_on u h ≡ 9 → count_on u h ≡ 0
  no_fields = rw found.2 at (row_plain u s found.0 found.1)

  pub deep : 1 ≤ low → 1 ≤ depth_on u h
  deep l =
      let k : 1 ≤ kind_on u found.0.at = rw found.2 (omega (arith, p.least)) in
      rw found.2 at (above u s found.0 found.1 k).0

  pub of_tuple : kind_on u h ≡ 7 → TupleAt u h
  of_tuple = rw found.2 at (row_tuple u s found.0 found.1)

  pub of_struct : kind_on u h ≡ 8 → StructAt u h
  of_struct = rw found.2 at (row_struct u s found.0 found.1)

  pub of_fref : kind_on u h ≡ 9 → NameAt u h (word u (h + 1))
  of_fref = rw found.2 at (row_fref u s found.0 found.1)

  pub of_pointer : kind_on u h ≡ 10 → PointerAt u h
  of_pointer = rw found.2 at (row_pointer u s found.0 found.1)

  pub of_memory : kind_on u h ≡ 11 → MemoryAt u h
  of_memory = rw found.2 at (row_memory u s found.0 found.1)

  pub of_float : kind_on u h ≡ 6 → float_ok (word u (h + 1)) (word u (h + 2)) ≡ true
  of_float = rw found.2 at (row_float u s found.0 found.1)

  pub of_int : kind_on u h ≡ 5 → Ends (entries u) → (word u (h + 1) < 2 ^ 64) × (word u (h + 2) < 2 ^ 64)
  of_int = rw found.2 at (row_int u s found.0 found.1)
