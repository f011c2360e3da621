-- A high range by the test of the order, a constant by that of the words, all else by the code's steps.
use Rattle.std.proofs.Common.{sym, ◌∙◌, rules}
use Rattle.mask.proofs.Steps.{constant, zeros_few, zeros_fit, steps_are}
use Rattle.mask.proofs.mask.Statement.{statement}
use Rattle.mask.proofs.mask.Tie as tie

is_less-requires : tie.Need-is_less-requires
is_less-requires c κs = search rules

returns-then-is_less : tie.Need-returns-then-is_less
returns-then-is_less c = rw (sym c.is_less.ensures ∙ c.if-is_less.true)

returns-then-min-max : tie.Need-returns-then-min-max
returns-then-min-max c = search constant

overflow_cast-bit : tie.Need-overflow_cast-bit
overflow_cast-bit c = search zeros_fit

overflow_shr-bit : tie.Need-overflow_shr-bit
overflow_shr-bit c = search zeros_few

wrapping_sub_u64-below-requires : tie.Need-wrapping_sub_u64-below-requires
wrapping_sub_u64-below-requires c κs = search rules

returns : tie.Need-returns
returns c = search steps_are

pub mask_spec : {M : Type 1} → statement M
mask_spec =
    tie.close
    (tie.spec
    is_less-requires
    returns-then-is_less
    returns-then-min-max
    overflow_cast-bit
    overflow_shr-bit
    wrapping_sub_u64-below-requires
    returns)
