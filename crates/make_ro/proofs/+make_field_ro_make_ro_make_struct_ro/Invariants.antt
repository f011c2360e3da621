use Rattle.std.proofs.Common.{◌≡◌, ◌++◌, take, ◌+◌, ◌*◌, ◌<◌, ◌≤◌, length}
use Rattle.make_ro.specs.Remembered.{Remembers}
use Rattle.make_ro.proofs.Loop.{GoingRo}
use Rattle.make_ro.proofs.+make_field_ro_make_ro_make_struct_ro.Given as goal

-- the measure is three times the handle, plus one in a type's call, and plus two in a field's
abbrev pub decreases-make_field_ro : goal.decreases-make_field_ro
decreases-make_field_ro l = 3 * l.t + 2

abbrev pub decreases-make_ro : goal.decreases-make_ro
decreases-make_ro l = 3 * l.a + 1

abbrev pub decreases-make_struct_ro : goal.decreases-make_struct_ro
decreases-make_struct_ro l = 3 * l.a

abbrev pub invariant-make_struct_ro-loop-i : goal.invariant-make_struct_ro-loop-i
invariant-make_struct_ro-loop-i l = record {
  few : l.n ≤ 255;
  long : length l.types ≡ 255;
  same_long : length l.new ≡ length l.fn.new;
  within : l.v ≤ length l.old + length l.fn.new;
  onward : l.used ≤ l.v;
  over : length l.old ≤ l.used;
  near : l.a < 1048576;
  going : GoingRo l.old l.fn.new l.used l.a l.n l.new l.types l.v l.i;
  right : Remembers (take l.v (l.old ++ l.new)) l.memo l.known;
}
