-- The rows of types, and then its own.
use Rattle.call.proofs.Refusals.{first_rows, no_row}
use Rattle.of_types.proofs.Ways.{log_9, log_0}
use Rattle.of_types.proofs.log_size_rows.Goals as goal

pub returns-in_err-types_rows : goal.returns-in_err-types_rows
returns-in_err-types_rows c = first_rows _ _ _ _ _ c.types_rows.ensures c.in_err-types_rows.was c.from_residual.ensures.1

pub returns-then-log_size-ge-NO_LOG_SIZE : goal.returns-then-log_size-ge-NO_LOG_SIZE
returns-then-log_size-ge-NO_LOG_SIZE c = log_9 _ _ (no_row _ _ _ c.types_rows.ensures c.in_ok-types_rows.was) _ c.log_size.ensures c.if-log_size-ge-NO_LOG_SIZE.true

pub returns : goal.returns
returns c = log_0 _ _ (no_row _ _ _ c.types_rows.ensures c.in_ok-types_rows.was) _ c.log_size.ensures c.if-log_size-ge-NO_LOG_SIZE.false
