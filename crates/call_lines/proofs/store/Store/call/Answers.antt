-- The call that a merge is.
use Rattle.std.proofs.Common.{inr}
use Rattle.every_call.specs.Run.{meet_list}
use Rattle.call_lines.proofs.store.Store.call.Goals as goal

pub returns-in-Merge-clause-words_after : goal.returns-in-Merge-clause-words_after
returns-in-Merge-clause-words_after c = inr (meet_list c.list_of-list.result.now, _, c.meet_list.ensures.words_after)
