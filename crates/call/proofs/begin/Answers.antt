-- Row 1, and its number of used words.
use Rattle.std.proofs.Common.{rules}
use Rattle.call.proofs.Ways.{first_word, no_opening, an_opening}
use Rattle.call.proofs.begin.Goals as goal

pub returns-then-not-verify : goal.returns-then-not-verify
returns-then-not-verify c = search no_opening

pub bounds-words-0 : goal.bounds-words-0
bounds-words-0 c = search first_word

pub returns : goal.returns
returns c = search an_opening
