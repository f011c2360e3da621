-- The rows of calls on arrays, and then its own.
use Rattle.std.proofs.Common.{rules}
use Rattle.call.proofs.Refusals.{first_rows, no_row}
use Rattle.of_offsets.proofs.Column.{array_inside, scale_9, scale_0}
use Rattle.of_offsets.proofs.ary_scale_rows.Goals as goal

pub returns-in_err-array_rows : goal.returns-in_err-array_rows
returns-in_err-array_rows c = first_rows _ _ _ _ _ c.array_rows.ensures c.in_err-array_rows.was c.from_residual.ensures.1

pub ary_scale-requires : goal.ary_scale-requires
ary_scale-requires c = (search rules, array_inside _ _ _ _ c.requires (no_row _ _ _ c.array_rows.ensures c.in_ok-array_rows.was))

pub returns-then-ary_scale-ge-NO_LOG_SIZE : goal.returns-then-ary_scale-ge-NO_LOG_SIZE
returns-then-ary_scale-ge-NO_LOG_SIZE c = scale_9 _ _ (no_row _ _ _ c.array_rows.ensures c.in_ok-array_rows.was) _ c.ary_scale.ensures c.if-ary_scale-ge-NO_LOG_SIZE.true

pub returns : goal.returns
returns c = scale_0 _ _ (no_row _ _ _ c.array_rows.ensures c.in_ok-array_rows.was) _ c.ary_scale.ensures c.if-ary_scale-ge-NO_LOG_SIZE.false
