-- The rows: each way through the functions gives its row. `u` is the used words, s a struct. Assumes nothing.
use mathlib.Core.Path.{◌≡◌, sym}
use mathlib.Core.Bool.{Bool, true, false}
use mathlib.Core.List.{List}
use Prim.Native.Nat.{ℕ, ◌/◌, ◌≤◌, ◌<◌}
use native.Mathlib.Omega.{arith}
use borrow.Author.Tests.{lt-ltb, le-ltb}
use lib.ListN.{length, take}
use Rattle.words.specs.Columns.{word}
use Rattle.call.specs.Steps.{Marked}
use Rattle.rows.proofs.Arrays.{kind_inside}
use Rattle.of_structs.specs.OfStructs.{fields_rows, array_rows}
use Rattle.of_structs.proofs.Callers.{StructHandle, fields_passed, array_passed}
use Rattle.of_offsets.specs.OfOffsets.{ary_scale, unsized_field, offsets_rows, offset_rows, ary_base_rows, ary_scale_rows}

-- a struct stands in the used words
struct_inside : (ws : List ℕ) (used s : ℕ) → used ≤ length ws → StructHandle (take used ws) s → s < used
struct_inside ws used s within h = kind_inside ws used s 8 within (sym h.kind) (omega arith)

pub fields_inside : (ws bits : List ℕ) (used s : ℕ) → Marked ws bits used → fields_rows s (take used ws) ≡ 0 → s < used
fields_inside ws bits used s o z = struct_inside ws used s o.within (fields_passed (take used ws) s z)

pub array_inside : (ws bits : List ℕ) (used s : ℕ) → Marked ws bits used → array_rows s (take used ws) ≡ 0 → s < used
array_inside ws bits used s o z = struct_inside ws used s o.within (array_passed (take used ws) s z).0

module _ (u : List ℕ) (s : ℕ) where
  module _ (z : fields_rows s u ≡ 0) where
    module _ (a : Bool) (ia : a ≡ unsized_field u s) where
      pub offsets_9 : a ≡ true → 9 ≡ offsets_rows s u
      offsets_9 e = rw (z, ← ia, e)

      pub offsets_0 : a ≡ false → 0 ≡ offsets_rows s u
      offsets_0 e = rw (z, ← ia, e)

    module _ (i w : ℕ) (iw : w ≡ word u s) where
      pub offset_8 : w / 65536 < i → 8 ≡ offset_rows s i u
      offset_8 h = rw (z, ← iw, lt-ltb (w / 65536) i h)

      module _ (h : i ≤ w / 65536) (a : Bool) (ia : a ≡ unsized_field u s) where
        pub offset_9 : a ≡ true → 9 ≡ offset_rows s i u
        offset_9 e = rw (z, ← ia, ← iw, le-ltb (w / 65536) i h, e)

        pub offset_0 : a ≡ false → 0 ≡ offset_rows s i u
        offset_0 e = rw (z, ← ia, ← iw, le-ltb (w / 65536) i h, e)

  module _ (z : array_rows s u ≡ 0) where
    module _ (a : Bool) (ia : a ≡ unsized_field u s) where
      pub base_9 : a ≡ true → 9 ≡ ary_base_rows s u
      base_9 e = rw (z, ← ia, e)

      pub base_0 : a ≡ false → 0 ≡ ary_base_rows s u
      base_0 e = rw (z, ← ia, e)

    module _ (x : ℕ) (ix : x ≡ ary_scale u s) where
      pub scale_9 : 4 ≤ x → 9 ≡ ary_scale_rows s u
      scale_9 h = rw (z, ← ix, le-ltb x 4 h)

      pub scale_0 : x < 4 → 0 ≡ ary_scale_rows s u
      scale_0 h = rw (z, ← ix, lt-ltb x 4 h)
