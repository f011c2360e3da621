-- `fresh_store::fresh` meets its contract.
use Rattle.wellformed.specs.Fresh.{fresh_words}
use Rattle.fresh_store.proofs.Values.{fresh_short, fresh_long, fresh_filled}
use Rattle.fresh_store.proofs.fresh.Goals as goal

pub returns-then-words-lt-FRESH_LENGTH : goal.returns-then-words-lt-FRESH_LENGTH
returns-then-words-lt-FRESH_LENGTH c = search fresh_short

pub returns-then-words-gt-LONGEST : goal.returns-then-words-gt-LONGEST
returns-then-words-gt-LONGEST c = search fresh_long

pub returns : goal.returns
unfolding fresh_words
returns c = search fresh_filled
