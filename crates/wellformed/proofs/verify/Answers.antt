-- Each way out is a test of `well_formed`.
use Rattle.wellformed.proofs.Limits.{too_short, too_long, stale, too_few, too_many, dirty, clean}
use Rattle.wellformed.specs.Fresh.{fresh_words}
use Rattle.wellformed.proofs.verify.Goals as goal

pub returns-then-words-lt-FRESH_LENGTH : goal.returns-then-words-lt-FRESH_LENGTH
returns-then-words-lt-FRESH_LENGTH c = search too_short

pub returns-then-words-gt-LONGEST : goal.returns-then-words-gt-LONGEST
returns-then-words-gt-LONGEST c = search too_long

pub returns-then-not-same : goal.returns-then-not-same
unfolding fresh_words
returns-then-not-same c = search stale

pub returns-then-w : goal.returns-then-w
unfolding fresh_words
returns-then-w c = search too_few

pub returns-then-w-words : goal.returns-then-w-words
unfolding fresh_words
returns-then-w-words c = search too_many

pub returns-then-not-zeros : goal.returns-then-not-zeros
unfolding fresh_words
returns-then-not-zeros c = search dirty

pub returns : goal.returns
unfolding fresh_words
returns c = search clean
