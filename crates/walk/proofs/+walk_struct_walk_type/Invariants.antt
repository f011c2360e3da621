use Rattle.std.proofs.Common.{◌≡◌, ◌++◌, take, ◌+◌, ◌*◌, ◌<◌, ◌≤◌, length}
use Rattle.walk.specs.Remembered.{Remembers}
use Rattle.walk.proofs.Loop.{Going₁}
use Rattle.walk.proofs.+walk_struct_walk_type.Given as goal

-- the measure is twice the handle, plus one in a type's walk
abbrev pub decreases-walk_struct : goal.decreases-walk_struct
decreases-walk_struct l = 2 * l.a

abbrev pub decreases-walk_type : goal.decreases-walk_type
decreases-walk_type l = 2 * l.a + 1

abbrev pub invariant-walk_struct-loop-i : goal.invariant-walk_struct-loop-i
invariant-walk_struct-loop-i l = record {
  few : l.n ≤ 255;
  long : length l.types ≡ 255;
  same_long : length l.new ≡ length l.fn.new;
  within : l.v ≤ length l.old + length l.fn.new;
  onward : l.used ≤ l.v;
  over : length l.old ≤ l.used;
  near : l.a < 1048576;
  going : Going₁ l.op 3 l.old l.fn.new l.used l.a l.n (l.a + 3) l.new l.types l.v l.i;
  right : Remembers l.op (take l.v (l.old ++ l.new)) l.memo;
}

abbrev pub invariant-walk_type-loop-i : goal.invariant-walk_type-loop-i
invariant-walk_type-loop-i l = record {
  few : l.n ≤ 255;
  long : length l.parts ≡ 255;
  same_long : length l.new ≡ length l.fn.new;
  within : l.v ≤ length l.old + length l.fn.new;
  onward : l.used ≤ l.v;
  over : length l.old ≤ l.used;
  near : l.a < 1048576;
  going : Going₁ l.op 1 l.old l.fn.new l.used l.a l.n (l.a + 1) l.new l.parts l.v l.i;
  right : Remembers l.op (take l.v (l.old ++ l.new)) l.memo;
}
