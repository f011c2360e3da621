-- `of_types::int_log_size` meets its contract.
use Rattle.of_types.proofs.Ways.{log_byte, log_bool, log_16, log_32, log_64, log_constant, log_none}
use Rattle.of_types.proofs.int_log_size.Goals as goal

pub returns-then-one_of : goal.returns-then-one_of
returns-then-one_of c = search log_byte

pub returns-then-t : goal.returns-then-t
returns-then-t c = search log_bool

pub returns-then-one_of-2 : goal.returns-then-one_of-2
returns-then-one_of-2 c = search log_16

pub returns-then-one_of-3 : goal.returns-then-one_of-3
returns-then-one_of-3 c = search log_32

pub returns-then-t-2 : goal.returns-then-t-2
returns-then-t-2 c = search log_64

pub returns-then-is_high_or_constant : goal.returns-then-is_high_or_constant
returns-then-is_high_or_constant c = search log_constant

pub returns : goal.returns
returns c = search log_none
