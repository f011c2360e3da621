-- `entry_search::find_entry` meets its contract.
use mathlib.Core.Bool.{not}
use mathlib.Core.Path.{ap}
use Rattle.entry_search.proofs.Shown.{turned_back, first_word, to_find, found_there, found_nowhere}
use Rattle.entry_search.proofs.find_entry.Goals as goal

pub returns-then-not-well_formed : goal.returns-then-not-well_formed
returns-then-not-well_formed c = search turned_back

pub bounds-words-0 : goal.bounds-words-0
bounds-words-0 c = search first_word

pub find-s-requires : goal.find-s-requires
find-s-requires c = to_find _ c.args.entry.now _ c.well_formed-2.ensures (ap not c.if-not-well_formed.false)

pub returns-in-Some : goal.returns-in-Some
returns-in-Some c = search found_there

pub returns-in-None : goal.returns-in-None
returns-in-None c = search found_nowhere
