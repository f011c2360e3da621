-- The answer is the answer on what is left, from the depth so far.
use Rattle.std.proofs.Common.{◌≡◌, ◌+◌, ◌-◌, ◌*◌}
use Rattle.source.specs.Source.{stored}
use Rattle.bitset.specs.Bitset.{bit_at}
use Rattle.wellformed.specs.Form.{heads_at}
use Rattle.wellformed.specs.Scan.{fields_depth}
use Rattle.wellformed.proofs.far_fields.Given as goal

abbrev pub invariant-loop-j : goal.invariant-loop-j
invariant-loop-j l = fields_depth (heads_at (bit_at l.bits) (stored l.words l.tail)) l.fn.deepest (l.n - l.from) (2 + 3 * l.from) l.e ≡ fields_depth (heads_at (bit_at l.bits) (stored l.words l.tail)) l.d (l.n - l.j) (2 + 3 * l.j) l.e
