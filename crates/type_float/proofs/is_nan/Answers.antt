-- A NaN's bits, the sign left out, are above those of infinity.
use Rattle.std.proofs.Common.{sym}
use lib.Ieee.Bits.{nan_bits_above}
use Rattle.std.specs.Float.{binary64}
use Rattle.type_float.proofs.is_nan.Goals as goal

pub returns : goal.returns
returns c = sym (nan_bits_above binary64 c.args.bits)
