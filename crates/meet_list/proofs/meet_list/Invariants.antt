use Rattle.std.proofs.Common.{◌≡◌, ◌++◌, take, length}
use Rattle.lent_memory.specs.Memory.{Right}
use Rattle.meet_list.proofs.Merging.{Merging}
use Rattle.meet_list.proofs.meet_list.Given as goal

abbrev pub invariant-loop-h : goal.invariant-loop-h
invariant-loop-h l = record {
  same_long : length l.new ≡ length l.fn.new;
  merging : Merging l.old l.fn.new l.used l.types l.new l.met.handle l.met.used l.h-index;
  right : Right (take l.met.used (l.old ++ l.new)) l.memory;
}
