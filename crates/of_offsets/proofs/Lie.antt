-- The offsets that the calls tell lie as a layout has to: within the end, aligned, apart, the wider first, each group in field order. It is layout's one argument, for the rule `log_size`. Assumes nothing.
use mathlib.Core.List.{List}
use Prim.Native.Nat.{ℕ}
use Rattle.layout.specs.Lays.{Lays}
use Rattle.layout.proofs.Meaning.{laid_out_by}
use Rattle.words.specs.Columns.{field_types_on}
use Rattle.of_types.specs.OfTypes.{log_size}
use Rattle.of_offsets.specs.OfOffsets.{log_sizes_on, offsets_on}

pub offsets_lie : (u : List ℕ) (s : ℕ) → Lays (log_sizes_on u s) (offsets_on u s)
offsets_lie u s = laid_out_by (log_size u) (field_types_on u s)
