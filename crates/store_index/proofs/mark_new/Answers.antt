use Rattle.store_index.proofs.Store.{new_ready}
use Rattle.store_index.proofs.mark_new.Goals as goal

pub mark_from-requires-clause-from_le_used : goal.mark_from-requires-clause-from_le_used
mark_from-requires-clause-from_le_used c = (new_ready _ c.requires.words_value _ _ c.requires.unmarked _ c.marks_size-k.ensures.0).0
