-- No more numbers than bytes that are passed, and the room never shrinks.
use Rattle.std.proofs.Common.{◌≡◌, ◌≤◌, ◌+◌, false, length}
use Rattle.std.specs.Prelude.{vec_len, vec_capacity}
use Rattle.std.specs.Slice.Iter.{split_rest, split_done}
use Rattle.script.proofs.lines.numbers.Given as goal

abbrev pub invariant-loop-word : goal.invariant-loop-word
invariant-loop-word l =
    (goal.iterator-loop-word).can_next l.word-iterator
    × (goal.iterator-loop-word).is_finite l.word-iterator
    × (vec_len l.out ≤ length l.rest)
    × (split_done l.word-iterator ≡ false → vec_len l.out + length (split_rest l.word-iterator) + 1 ≤ length l.rest)
    × (vec_capacity l.fn.out ≤ vec_capacity l.out)
