-- What a caller shows: of a call that no row turns back, and of a struct in a store that row 1 has passed. `u` is the used words. Assumes nothing.
use mathlib.Core.Path.{◌≡◌, refl}
use mathlib.Core.Bool.{true, false, not, ◌&&◌, ◌||◌}
use mathlib.Core.List.{List, [], ◌∷◌}
use Prim.Native.Nat.{ℕ, ◌≤◌, ◌<◌}
use native.Mathlib.Omega.{arith}
use borrow.Author.Tests.{leb-true, eqb-true, eqb-false, lt-ltb, not-false}
use lib.Dec.{eqb, leb, ltb}
use lib.ListN.{length, take}
use lib.Seq.{length-take-le}
use Rattle.words.specs.Table.{starts}
use Rattle.words.specs.Columns.{word, kind_on, count_on, field_name_at, field_names_on}
use Rattle.wellformed.specs.Entry.{is_name, is_struct, is_alias, kind_at, all}
use Rattle.wellformed.proofs.Bools.{and_left, and_right, and_both}
use Rattle.call.specs.Call.{◌when◌, ◌otherwise◌}
use Rattle.call.specs.Handles.{no_entry, wrong_kind}
use Rattle.call.proofs.Sound.{start_used}
use Rattle.kept.proofs.Fits.{Right}
use Rattle.kept.proofs.Rows.{then_off, two_off, either_off, right_of}
use Rattle.parts.specs.Parts.{Good, NameAt, All}
use Rattle.parts.proofs.Parts.{few, of_struct}
use Rattle.parts.proofs.Good.{handle_part}
use Rattle.of_structs.specs.OfStructs.{second_field, is_body_name, is_ary, no_fields, is_array, fields_rows, find_rows, find_alias_rows, array_rows}

-- ---- calls that no row turns back

-- s is the handle of a struct
pub record StructHandle (u : List ℕ) (s : ℕ) : Type 0 where
  pub entry : starts u s ≡ true
  pub kind : kind_on u s ≡ 8

-- a struct or a forward reference that has fields
with_fields : (u : List ℕ) (s : ℕ) → starts u s ≡ true → is_struct (kind_on u s) ≡ true → no_fields u s ≡ false → StructHandle u s
with_fields u s e k n =
    let low = leb-true 8 (kind_on u s) (and_left (leb 8 (kind_on u s)) (leb (kind_on u s) 9) k) in
    let high = leb-true (kind_on u s) 9 (and_right (leb 8 (kind_on u s)) (leb (kind_on u s) 9) k) in
    record { entry = e; kind = omega (arith, low, high, eqb-false (kind_on u s) 9 n) }

module _ (u : List ℕ) (s : ℕ) where
  right_struct : Right u is_struct (s ∷ []) → no_fields u s ≡ false → StructHandle u s
  unfolding all
  right_struct r n = with_fields u s (and_left (starts u s) true r.start) (and_left (kind_at (word u) is_struct s) true r.kinds) n

  pub fields_passed : fields_rows s u ≡ 0 → StructHandle u s
  unfolding fields_rows
  fields_passed q =
      let x = then_off 1 (no_entry u (s ∷ [])) (3 when wrong_kind u is_struct (s ∷ []) otherwise 7 when no_fields u s) q in
      let y = two_off 2 6 (wrong_kind u is_struct (s ∷ [])) (no_fields u s) x.1 in
      right_struct (right_of u is_struct (s ∷ []) x.0 y.0) y.1

  pub find_passed : (name : ℕ) → find_rows s name u ≡ 0 → StructHandle u s × (starts u name ≡ true) × (kind_on u name ≡ 0)
  unfolding find_rows all
  find_passed name q =
      let S = wrong_kind u is_struct (s ∷ []) in
      let N = wrong_kind u is_name (name ∷ []) in
      let x = then_off 1 (no_entry u (s ∷ name ∷ [])) (3 when S || N otherwise 7 when no_fields u s) q in
      let y = two_off 2 6 (S || N) (no_fields u s) x.1 in
      let z = either_off S N y.0 in
      let both : (starts u s && (starts u name && true)) ≡ true = not-false _ x.0 in
      let second : (starts u name && true) ≡ true = and_right (starts u s) (starts u name && true) both in
      let k : (kind_at (word u) is_struct s && true) ≡ true = not-false _ z.0 in
      let l : (kind_at (word u) is_name name && true) ≡ true = not-false _ z.1 in (
        with_fields u s (and_left (starts u s) (starts u name && true) both) (and_left (kind_at (word u) is_struct s) true k) y.1,
        and_left (starts u name) true second,
        eqb-true (kind_on u name) 0 (and_left (kind_at (word u) is_name name) true l),
      )

  pub alias_passed : (alias : ℕ) → find_alias_rows s alias u ≡ 0 → StructHandle u s × (alias ≤ 4294967295)
  unfolding find_alias_rows
  alias_passed alias q =
      let x = then_off 1 (no_entry u (s ∷ [])) (3 when wrong_kind u is_struct (s ∷ []) otherwise 4 when not (is_alias alias) otherwise 7 when no_fields u s) q in
      let y = then_off 2 (wrong_kind u is_struct (s ∷ [])) (4 when not (is_alias alias) otherwise 7 when no_fields u s) x.1 in
      let z = two_off 3 6 (not (is_alias alias)) (no_fields u s) y.1 in
      (right_struct (right_of u is_struct (s ∷ []) x.0 y.0) z.1, leb-true alias 4294967295 (not-false (is_alias alias) z.0))

  pub array_passed : array_rows s u ≡ 0 → StructHandle u s × (is_ary u s ≡ true)
  unfolding array_rows all
  array_passed q =
      let x = two_off 1 2 (no_entry u (s ∷ [])) (not (is_array u s)) q in
      let e : (starts u s && true) ≡ true = not-false _ x.0 in
      let a : is_array u s ≡ true = not-false (is_array u s) x.1 in
      let k = and_left (eqb (kind_on u s) 8) (is_ary u s) a in
      (record { entry = and_left (starts u s) true e; kind = eqb-true (kind_on u s) 8 k }, and_right (eqb (kind_on u s) 8) (is_ary u s) a)

  -- an array has two fields
  pub array_fields : is_ary u s ≡ true → count_on u s ≡ 2
  unfolding is_ary
  array_fields a = eqb-true (count_on u s) 2 (and_left (eqb (count_on u s) 2) (is_body_name u (field_name_at u (second_field s))) a)

-- ---- what the functions require

-- names that stand before h
names_fit : (u : List ℕ) (h : ℕ) → h < 1048576 → (hs : List ℕ) → All (NameAt u h) hs → all (λ x. ltb x 1048576) hs ≡ true
unfolding all
names_fit u h l [] a = refl
names_fit u h l (x ∷ hs) a = and_both (ltb x 1048576) (all (λ y. ltb y 1048576) hs) (lt-ltb x 1048576 (omega (arith, a.0.earlier))) (names_fit u h l hs a.1)

module _ (ws : List ℕ) (used : ℕ) (within : used ≤ length ws) (g : Good (take used ws)) where
  pub handle_used : (h : ℕ) → starts (take used ws) h ≡ true → h < used
  handle_used h e = omega (arith, (start_used (take used ws) g.sound.low h e).1, length-take-le used ws within)

  module _ (s : ℕ) (is : StructHandle (take used ws) s) where
    pub struct_used : s < used
    struct_used = handle_used s is.entry

    pub struct_few : count_on (take used ws) s ≤ 255
    struct_few = few g.sound (handle_part s g is.entry (omega (arith, is.kind)) (omega (arith, is.kind)))

    pub struct_names : length ws ≤ 1048576 → all (λ x. ltb x 1048576) (field_names_on (take used ws) s) ≡ true
    struct_names small =
        let p = handle_part s g is.entry (omega (arith, is.kind)) (omega (arith, is.kind)) in
        let l : s < 1048576 = omega (arith, struct_used) in
        names_fit (take used ws) s l (field_names_on (take used ws) s) (of_struct g.sound p is.kind).names
