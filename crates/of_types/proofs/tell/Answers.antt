-- `of_types::tell` meets its contract.
use mathlib.Core.Path.{ap, ◌∙◌}
use Rattle.call.specs.Call.{handle, number, flag}
use Rattle.of_types.specs.OfTypes.{is_high, is_high_or_constant, is_constant}
use Rattle.of_types.proofs.As.{as_told}
use Rattle.of_types.proofs.tell.Goals as goal

pub returns-in-MakeInit : goal.returns-in-MakeInit
returns-in-MakeInit c = as_told c.in-MakeInit.is _ _ (ap handle c.make_init.ensures)

pub returns-in-MakeZero : goal.returns-in-MakeZero
returns-in-MakeZero c = as_told c.in-MakeZero.is _ _ (ap handle c.make_zero.ensures)

pub returns-in-IsHigh : goal.returns-in-IsHigh
returns-in-IsHigh c = as_told c.in-IsHigh.is _ _ (ap flag (c.is_high.ensures ∙ ap is_high c.side_of.ensures))

pub returns-in-IsHighOrConstant : goal.returns-in-IsHighOrConstant
returns-in-IsHighOrConstant c = as_told c.in-IsHighOrConstant.is _ _ (ap flag (c.is_high_or_constant.ensures ∙ ap is_high_or_constant c.side_of-in-IsHighOrConstant.ensures))

pub returns-in-IsConstant : goal.returns-in-IsConstant
returns-in-IsConstant c = as_told c.in-IsConstant.is _ _ (ap flag (c.is_constant.ensures ∙ ap is_constant c.side_of-in-IsConstant.ensures))

pub returns-in-IsFref : goal.returns-in-IsFref
returns-in-IsFref c = as_told c.in-IsFref.is _ _ (ap flag c.is_fref.ensures)

pub returns-in-LogSize : goal.returns-in-LogSize
returns-in-LogSize c = as_told c.in-LogSize.is _ _ (ap number c.log_size.ensures)
