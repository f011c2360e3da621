-- `struct_calls::rows_of` meets its contract.
use Rattle.struct_calls.proofs.As.{as_rows}
use Rattle.struct_calls.proofs.rows_of.Goals as goal

pub returns-in-Name : goal.returns-in-Name
returns-in-Name c = as_rows c.in-Name.is _ _ c.kind_rows.ensures

pub returns-in-Find : goal.returns-in-Find
returns-in-Find c = as_rows c.in-Find.is _ _ c.find_rows.ensures

pub returns-in-FindAlias : goal.returns-in-FindAlias
returns-in-FindAlias c = as_rows c.in-FindAlias.is _ _ c.find_alias_rows.ensures

pub returns-in-IsAry : goal.returns-in-IsAry
returns-in-IsAry c = as_rows c.in-IsAry.is _ _ c.fields_rows.ensures

pub returns-in-Offset : goal.returns-in-Offset
returns-in-Offset c = as_rows c.in-Offset.is _ _ c.offset_rows.ensures

pub returns-in-AryBase : goal.returns-in-AryBase
returns-in-AryBase c = as_rows c.in-AryBase.is _ _ c.ary_base_rows.ensures

pub returns-in-AryScale : goal.returns-in-AryScale
returns-in-AryScale c = as_rows c.in-AryScale.is _ _ c.ary_scale_rows.ensures

pub returns-in-Fill : goal.returns-in-Fill
returns-in-Fill c = as_rows c.in-Fill.is _ _ c.fill_rows.ensures
