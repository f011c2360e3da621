-- `struct_calls::tell` meets its contract.
use mathlib.Core.Path.{ap, ◌∙◌}
use native.Mathlib.Omega.{arith}
use Rattle.wellformed.specs.Entry.{is_struct}
use Rattle.call.specs.Call.{handle, number, flag}
use Rattle.of_structs.specs.OfStructs.{placed}
use Rattle.struct_calls.proofs.Callers.{kind_used, within}
use Rattle.struct_calls.proofs.As.{as_told, as_cleared}
use Rattle.struct_calls.proofs.Needs.{find_need, alias_need, offset_need, base_need, scale_need}
use Rattle.struct_calls.proofs.tell.Goals as goal

pub overflow_add-s : goal.overflow_add-s
overflow_add-s c = omega (arith, kind_used is_struct c.args.s (as_cleared c.in-Name.is c.args.s c.requires), within c.requires)

pub find-requires : goal.find-requires
find-requires c = let p = find_need _ _ _ _ (as_cleared c.in-Find.is c.args.s c.requires) in record { used_in_bounds = p.0; s_bound = p.1 }

pub find_alias-requires : goal.find_alias-requires
find_alias-requires c = let p = alias_need _ _ _ _ (as_cleared c.in-FindAlias.is c.args.s c.requires) in record { used_in_bounds = p.0; s_bound = p.1 }

pub offset-requires : goal.offset-requires
offset-requires c = let p = offset_need _ _ _ _ (as_cleared c.in-Offset.is c.args.s c.requires) in record { used_in_bounds = p.0; s_value = p.1 }

pub offset-requires-in-AryBase : goal.offset-requires-in-AryBase
offset-requires-in-AryBase c = let p = base_need _ _ _ (as_cleared c.in-AryBase.is c.args.s c.requires) in record { used_in_bounds = p.0; s_value = p.1 }

pub ary_scale-requires : goal.ary_scale-requires
ary_scale-requires c = scale_need _ _ _ (as_cleared c.in-AryScale.is c.args.s c.requires)

pub returns-in-Name : goal.returns-in-Name
returns-in-Name c = as_told c.in-Name.is _ _ (ap handle c.word.ensures)

pub returns-in-Find : goal.returns-in-Find
returns-in-Find c = as_told c.in-Find.is _ _ (c.place.ensures ∙ ap placed c.find.ensures)

pub returns-in-FindAlias : goal.returns-in-FindAlias
returns-in-FindAlias c = as_told c.in-FindAlias.is _ _ (c.place-in-FindAlias.ensures ∙ ap placed c.find_alias.ensures)

pub returns-in-IsAry : goal.returns-in-IsAry
returns-in-IsAry c = as_told c.in-IsAry.is _ _ (ap flag c.is_ary.ensures)

pub returns-in-Offset : goal.returns-in-Offset
returns-in-Offset c = as_told c.in-Offset.is _ _ (ap number c.offset.ensures)

pub returns-in-AryBase : goal.returns-in-AryBase
returns-in-AryBase c = as_told c.in-AryBase.is _ _ (ap number c.offset-in-AryBase.ensures)

pub returns-in-AryScale : goal.returns-in-AryScale
returns-in-AryScale c = as_told c.in-AryScale.is _ _ (ap number c.ary_scale.ensures)

pub returns-in-Fill : goal.returns-in-Fill
returns-in-Fill c = as_told c.in-Fill.is _ _ (ap number c.filled.ensures)
