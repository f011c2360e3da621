-- The answer is the answer on what is left, from the depth so far.
use Rattle.std.proofs.Common.{◌≡◌, drop}
use Rattle.source.specs.Source.{stored}
use Rattle.bitset.specs.Bitset.{bit_at}
use Rattle.wellformed.specs.Form.{heads_at}
use Rattle.wellformed.specs.Scan.{parts_depth}
use Rattle.wellformed.proofs.far_elements.Given as goal

abbrev pub invariant-loop-h : goal.invariant-loop-h
invariant-loop-h l = parts_depth (heads_at (bit_at l.bits) (stored l.words l.tail)) l.fn.deepest l.parts ≡ parts_depth (heads_at (bit_at l.bits) (stored l.words l.tail)) l.d (drop l.h-index l.parts)
