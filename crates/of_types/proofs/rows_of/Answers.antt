-- `of_types::rows_of` meets its contract.
use Rattle.of_types.proofs.As.{as_rows}
use Rattle.of_types.proofs.rows_of.Goals as goal

pub returns-in-MakeInit : goal.returns-in-MakeInit
returns-in-MakeInit c = as_rows c.in-MakeInit.is _ _ c.types_rows.ensures

pub returns-in-MakeZero : goal.returns-in-MakeZero
returns-in-MakeZero c = as_rows c.in-MakeZero.is _ _ c.zero_rows.ensures

pub returns-in-IsHigh : goal.returns-in-IsHigh
returns-in-IsHigh c = as_rows c.in-IsHigh.is _ _ c.types_rows-in-IsHigh.ensures

pub returns-in-IsHighOrConstant : goal.returns-in-IsHighOrConstant
returns-in-IsHighOrConstant c = as_rows c.in-IsHighOrConstant.is _ _ c.types_rows-in-IsHighOrConstant.ensures

pub returns-in-IsConstant : goal.returns-in-IsConstant
returns-in-IsConstant c = as_rows c.in-IsConstant.is _ _ c.types_rows-in-IsConstant.ensures

pub returns-in-IsFref : goal.returns-in-IsFref
returns-in-IsFref c = as_rows c.in-IsFref.is _ _ c.types_rows-in-IsFref.ensures

pub returns-in-LogSize : goal.returns-in-LogSize
returns-in-LogSize c = as_rows c.in-LogSize.is _ _ c.log_size_rows.ensures
