-- `of_types::int_side_at` meets its contract.
use Rattle.of_types.proofs.Ways.{side_words}
use Rattle.of_types.proofs.int_side_at.Goals as goal

pub returns : goal.returns
returns c = search side_words
