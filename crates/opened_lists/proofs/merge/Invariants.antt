use Rattle.std.proofs.Common.{◌≡◌, ◌≤◌, [], take, length}
use Rattle.index.specs.Covers.{Opened}
use Rattle.lent_memory.specs.Memory.{Right}
use Rattle.meet_list.proofs.Merging.{Merging}
use Rattle.opened_lists.proofs.merge.Given as goal

abbrev pub invariant-loop-h : goal.invariant-loop-h
invariant-loop-h l = record {
  same_long : length l.words ≡ length l.fn.words;
  merging : Merging [] l.fn.words l.used l.types l.words l.met.handle l.met.used l.h-index;
  opened : Opened (take l.met.used l.words) l.chains;
  right : Right (take l.met.used l.words) l.memory;
}
