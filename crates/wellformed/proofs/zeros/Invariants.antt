-- The answer is the answer on what is left.
use Rattle.std.proofs.Common.{◌≡◌, drop}
use Rattle.wellformed.specs.Form.{all_zero}
use Rattle.wellformed.proofs.zeros.Given as goal

abbrev pub invariant-loop-w : goal.invariant-loop-w
invariant-loop-w l = all_zero l.a ≡ all_zero (drop l.w-index l.a)
