-- The answer is the answer on what is left, from the depth so far.
use Rattle.std.proofs.Common.{◌≡◌, drop}
use Rattle.source.specs.Source.{stored}
use Rattle.bitset.specs.Bitset.{bit_at}
use Rattle.wellformed.specs.Form.{heads_at}
use Rattle.wellformed.specs.Scan.{parts_depth}
use Rattle.wellformed.proofs.elements.Given as goal

abbrev pub invariant-loop-i : goal.invariant-loop-i
invariant-loop-i l = parts_depth (heads_at (bit_at l.bits) (stored l.words l.tail)) 0 l.parts ≡ parts_depth (heads_at (bit_at l.bits) (stored l.words l.tail)) l.d (drop l.i l.parts)
