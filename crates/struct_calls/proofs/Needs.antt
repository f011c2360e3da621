-- What the functions require, where no row of the call applies, and the rows of a call that fills. Assumes nothing.
use mathlib.Core.Path.{◌≡◌, sym}
use mathlib.Core.Bool.{true, false}
use mathlib.Core.List.{List, []}
use Prim.Native.Nat.{ℕ, ◌+◌, ◌*◌, ◌/◌, ◌≤◌, ◌<◌}
use native.Mathlib.Omega.{arith}
use borrow.Author.Tests.{lt-ltb, le-ltb, ltb-false}
use lib.Dec.{ltb}
use lib.ListN.{length, take}
use Rattle.words.specs.Columns.{word, count_on, field_names_on}
use Rattle.wellformed.specs.Entry.{all}
use Rattle.call.specs.Call.{◌when◌, ◌otherwise◌, output_rows}
use Rattle.kept.proofs.Rows.{off}
use Rattle.of_structs.specs.OfStructs.{field_list, fields_rows, find_rows, find_alias_rows, array_rows}
use Rattle.of_structs.proofs.Callers.{StructHandle, fields_passed, find_passed, alias_passed, handle_used, struct_used, struct_few, struct_names}
use Rattle.of_structs.proofs.Lent.{lent_length}
use Rattle.of_offsets.specs.OfOffsets.{offsets_on, unsized_field, offsets_rows, offset_rows, ary_base_rows, ary_scale_rows}
use Rattle.of_offsets.proofs.Callers.{rows_off, offsets_passed, offset_passed, ary_base_passed, ary_scale_passed}
use Rattle.of_offsets.proofs.Logs.{offsets_length}
use Rattle.every_call.specs.Cleared.{Cleared}
use Rattle.struct_calls.proofs.Callers.{within, few_words}

-- ---- rows of which none applies

module _ (rows : List ℕ → ℕ) (answer : List ℕ → List ℕ) (n : ℕ) (u : List ℕ) where
  pub output_passed : output_rows rows answer n u ≡ 0 → (rows u ≡ 0) × (length (answer u) ≤ n)
  output_passed q =
      let x = rows_off (rows u) (11 when ltb n (length (answer u))) q in
      (x.0, ltb-false n (length (answer u)) (off 10 (ltb n (length (answer u))) x.1))

  module _ (z : rows u ≡ 0) (w : ℕ) (iw : w ≡ length (answer u)) where
    pub fill_11 : n < w → 11 ≡ output_rows rows answer n u
    fill_11 h = rw (z, ← iw, lt-ltb n w h)

    pub fill_0 : w ≤ n → 0 ≡ output_rows rows answer n u
    fill_0 h = rw (z, ← iw, le-ltb n w h)

-- ---- how many words are filled in

module _ (u : List ℕ) (s w : ℕ) (is : w ≡ word u s) where
  pub fields_length : 4 * (w / 65536) ≡ length (field_list u s)
  fields_length = rw is (sym (lent_length (count_on u s) (s + 2) u))

  pub places_length : w / 65536 + 1 ≡ length (offsets_on u s)
  places_length = rw is (sym (offsets_length u s))

-- ---- what the functions require

module _ (ws : List ℕ) (used s : ℕ) where
  abbrev u : List ℕ
  u = take used ws

  module _ {rows : List ℕ → ℕ} (c : Cleared rows [] ws used) (h : StructHandle u s) where
    here : s < used
    here = struct_used ws used (within c) c.good s h

    few : count_on u s ≤ 255
    few = struct_few ws used (within c) c.good s h

    fields_need : (used ≤ length ws) × (s < used) × (length ws ≤ 1048576)
    fields_need = (within c, here, few_words c)

    sized_need : (i : ℕ) → i ≤ count_on u s → unsized_field u s ≡ false → ((used ≤ length ws) × (s < used) × (count_on u s ≤ 255) × (i ≤ count_on u s)) × (unsized_field u s ≡ false)
    sized_need i l z = ((within c, here, few, l), z)

  pub find_need : (name : ℕ) → Cleared (find_rows s name) [] ws used → ((used ≤ length ws) × (s < used) × (name < used) × (length ws ≤ 1048576)) × ((count_on u s ≤ 255) × (all (λ x. ltb x 1048576) (field_names_on u s) ≡ true))
  find_need name c =
      let p = find_passed u s name c.passed in
      ((within c, here c p.0, handle_used ws used (within c) c.good name p.1, few_words c), (few c p.0, struct_names ws used (within c) c.good s p.0 (few_words c)))

  pub alias_need : (alias : ℕ) → Cleared (find_alias_rows s alias) [] ws used → ((used ≤ length ws) × (s < used) × (length ws ≤ 1048576)) × (count_on u s ≤ 255)
  alias_need alias c = let p = alias_passed u s alias c.passed in (fields_need c p.0, few c p.0)

  pub offset_need : (i : ℕ) → Cleared (offset_rows s i) [] ws used → ((used ≤ length ws) × (s < used) × (count_on u s ≤ 255) × (i ≤ count_on u s)) × (unsized_field u s ≡ false)
  offset_need i c = let p = offset_passed u s i c.passed in sized_need c p.0 i p.1 p.2

  pub base_need : Cleared (ary_base_rows s) [] ws used → ((used ≤ length ws) × (s < used) × (count_on u s ≤ 255) × (1 ≤ count_on u s)) × (unsized_field u s ≡ false)
  base_need c = let p = ary_base_passed u s c.passed in sized_need c p.0 1 p.1 p.2

  pub scale_need : Cleared (ary_scale_rows s) [] ws used → (used ≤ length ws) × (s < used)
  scale_need c = (within c, here c (ary_scale_passed u s c.passed).0)

  pub fields_fill : (n : ℕ) → Cleared (output_rows (fields_rows s) (λ v. field_list v s) n) [] ws used → ((used ≤ length ws) × (s < used) × (length ws ≤ 1048576)) × ((count_on u s ≤ 255) × (4 * count_on u s ≤ n))
  fields_fill n c =
      let x = output_passed (fields_rows s) (λ v. field_list v s) n u c.passed in
      let h = fields_passed u s x.0 in
      (fields_need c h, (few c h, omega (arith, x.1, lent_length (count_on u s) (s + 2) u)))

  pub offsets_fill : (n : ℕ) → Cleared (output_rows (offsets_rows s) (λ v. offsets_on v s) n) [] ws used → ((used ≤ length ws) × (s < used) × (count_on u s ≤ 255) × (count_on u s < n)) × (unsized_field u s ≡ false)
  offsets_fill n c =
      let x = output_passed (offsets_rows s) (λ v. offsets_on v s) n u c.passed in
      let p = offsets_passed u s x.0 in
      ((within c, here c p.0, few c p.0, omega (arith, x.1, offsets_length u s)), p.1)
