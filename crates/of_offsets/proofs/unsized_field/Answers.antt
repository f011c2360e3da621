-- The loop's ways.
use Rattle.of_offsets.proofs.Logs.{sized_begin, all_sized, one_unsized, one_sized}
use Rattle.of_offsets.proofs.unsized_field.Goals as goal

pub loop-i-init : goal.loop-i-init
loop-i-init c = sized_begin _ _ _ c.word.ensures

pub returns-then-log_size-ge-NO_LOG_SIZE : goal.returns-then-log_size-ge-NO_LOG_SIZE
returns-then-log_size-ge-NO_LOG_SIZE c = one_unsized _ _ _ _ c.loop-i.invariant c.loop-i-test.true _ c.word-t.ensures _ c.log_size.ensures c.if-log_size-ge-NO_LOG_SIZE.true

pub loop-i-preserved : goal.loop-i-preserved
loop-i-preserved c = one_sized _ _ _ _ c.loop-i.invariant c.loop-i-test.true _ c.word-t.ensures _ c.log_size.ensures c.if-log_size-ge-NO_LOG_SIZE.false

pub returns : goal.returns
returns c = search all_sized
