use Rattle.std.proofs.Common.{◌≡◌, ◌++◌, take, max, ◌+◌, ◌*◌, ◌<◌, ◌≤◌, length}
use Rattle.meet_types.specs.Remembered.{Remembers}
use Rattle.meet_types.proofs.Loop.{Going}
use Rattle.meet_types.proofs.+meet_struct_meet_type.Given as goal

-- the measure is twice the larger handle, plus one in a type's meet
abbrev pub decreases-meet_struct : goal.decreases-meet_struct
decreases-meet_struct l = 2 * max l.a l.b

abbrev pub decreases-meet_type : goal.decreases-meet_type
decreases-meet_type l = 2 * max l.a l.b + 1

abbrev pub invariant-meet_struct-loop-i : goal.invariant-meet_struct-loop-i
invariant-meet_struct-loop-i l = record {
  few : l.n ≤ 255;
  long : length l.types ≡ 255;
  same_long : length l.new ≡ length l.fn.new;
  within : l.v ≤ length l.old + length l.fn.new;
  onward : l.used ≤ l.v;
  over : length l.old ≤ l.used;
  first_near : l.a < 1048576;
  second_near : l.b < 1048576;
  going : Going 3 l.old l.fn.new l.used l.a l.b l.n (l.a + 3) (l.b + 3) l.new l.types l.v l.i;
  right : Remembers (take l.v (l.old ++ l.new)) l.memo;
}

abbrev pub invariant-meet_type-loop-i : goal.invariant-meet_type-loop-i
invariant-meet_type-loop-i l = record {
  few : l.n ≤ 255;
  long : length l.parts ≡ 255;
  same_long : length l.new ≡ length l.fn.new;
  within : l.v ≤ length l.old + length l.fn.new;
  onward : l.used ≤ l.v;
  over : length l.old ≤ l.used;
  first_near : l.a < 1048576;
  second_near : l.b < 1048576;
  going : Going 1 l.old l.fn.new l.used l.a l.b l.n (l.a + 1) (l.b + 1) l.new l.parts l.v l.i;
  right : Remembers (take l.v (l.old ++ l.new)) l.memo;
}
