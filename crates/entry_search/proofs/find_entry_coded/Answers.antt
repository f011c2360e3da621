-- `entry_search::find_entry_coded` meets its contract.
use Rattle.entry_search.proofs.Shown.{told_same}
use Rattle.entry_search.proofs.find_entry_coded.Goals as goal

pub returns : goal.returns
returns c = search told_same
