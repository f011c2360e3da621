-- What a caller shows: of a call that no row turns back. `u` is the used words. That a struct stands in the used words and has at most 255 fields is shown in of_structs. Assumes nothing.
use mathlib.Core.Path.{◌≡◌, refl}
use mathlib.Core.Bool.{Bool, true, false, not}
use mathlib.Core.List.{List}
use Prim.Native.Nat.{ℕ, zero, suc, ◌≤◌, ◌<◌}
use native.Mathlib.Omega.{arith}
use borrow.Author.Tests.{ltb-false, ltb-true, not-false}
use lib.Dec.{ltb}
use Rattle.words.specs.Columns.{count_on}
use Rattle.call.specs.Call.{◌when◌, ◌otherwise◌}
use Rattle.kept.proofs.Rows.{off, two_off}
use Rattle.of_types.specs.OfTypes.{has_log_size}
use Rattle.of_structs.specs.OfStructs.{fields_rows, array_rows}
use Rattle.of_structs.proofs.Callers.{StructHandle, fields_passed, array_passed, array_fields}
use Rattle.of_offsets.specs.OfOffsets.{body_on, ary_scale, unsized_field, offsets_rows, offset_rows, ary_base_rows, ary_scale_rows}

-- rows of which none applies
pub rows_off : (a b : ℕ) → (a otherwise b) ≡ 0 → (a ≡ 0) × (b ≡ 0)
rows_off zero b q = (refl, q)
rows_off (suc a) b q = absurd (omega arith)

module _ (u : List ℕ) (s : ℕ) where
  pub offsets_passed : offsets_rows s u ≡ 0 → StructHandle u s × (unsized_field u s ≡ false)
  offsets_passed q =
      let x = rows_off (fields_rows s u) (9 when unsized_field u s) q in
      (fields_passed u s x.0, off 8 (unsized_field u s) x.1)

  pub offset_passed : (i : ℕ) → offset_rows s i u ≡ 0 → StructHandle u s × (i ≤ count_on u s) × (unsized_field u s ≡ false)
  offset_passed i q =
      let x = rows_off (fields_rows s u) (8 when ltb (count_on u s) i otherwise 9 when unsized_field u s) q in
      let y = two_off 7 8 (ltb (count_on u s) i) (unsized_field u s) x.1 in
      (fields_passed u s x.0, ltb-false (count_on u s) i y.0, y.1)

  -- `ary_base` is the offset of field 1
  pub ary_base_passed : ary_base_rows s u ≡ 0 → StructHandle u s × (1 ≤ count_on u s) × (unsized_field u s ≡ false)
  ary_base_passed q =
      let x = rows_off (array_rows s u) (9 when unsized_field u s) q in
      let a = array_passed u s x.0 in
      (a.0, omega (arith, array_fields u s a.1), off 8 (unsized_field u s) x.1)

  pub ary_scale_passed : ary_scale_rows s u ≡ 0 → StructHandle u s × (ary_scale u s < 4)
  ary_scale_passed q =
      let x = rows_off (array_rows s u) (9 when not (has_log_size u (body_on u s))) q in
      ((array_passed u s x.0).0, ltb-true (ary_scale u s) 4 (not-false (has_log_size u (body_on u s)) (off 8 (not (has_log_size u (body_on u s))) x.1)))
