use Rattle.store_index.proofs.Store.{used_within, used_fills, mark_ready, extend_covers}
use Rattle.store_index.proofs.extend.Goals as goal

pub mark_from-requires-clause-from_le_used : goal.mark_from-requires-clause-from_le_used
mark_from-requires-clause-from_le_used c = (mark_ready _ c.requires.words_value _ c.requires.stale _ c.marks_size-k.ensures.0 _ c.covered-from.ensures).0

pub mark_from-requires-clause-words_value : goal.mark_from-requires-clause-words_value
mark_from-requires-clause-words_value c = (mark_ready _ c.requires.words_value _ c.requires.stale _ c.marks_size-k.ensures.0 _ c.covered-from.ensures).1

pub extend-requires : goal.extend-requires
extend-requires c =
    let ok = c.requires.words_value in
    (used_within _ ok, used_fills _ ok, extend_covers _ ok _ c.requires.stale _ c.marks_size-k.ensures.0 c.mark_from.new.bits c.mark_from.auto.bits)
