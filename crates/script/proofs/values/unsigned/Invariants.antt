-- The value of the whole word is that of the digits left behind the sum so far.
use Rattle.std.proofs.Common.{◌≡◌, ◌^◌, ◌<◌, drop}
use Rattle.script.specs.Numbers.{unsigned_of, summed}
use Rattle.script.proofs.values.unsigned.Given as goal

abbrev pub invariant-loop-b : goal.invariant-loop-b
invariant-loop-b l = (l.sum < 2 ^ 64) × (unsigned_of l.base l.most l.word ≡ summed l.base l.sum (drop l.b-index l.word))
