-- `struct_calls::fill` meets its contract.
use Rattle.struct_calls.proofs.As.{as_fill, as_filled}
use Rattle.struct_calls.proofs.Needs.{fields_fill, offsets_fill}
use Rattle.struct_calls.proofs.fill.Goals as goal

pub fill_fields-requires : goal.fill_fields-requires
fill_fields-requires c = let p = fields_fill _ _ _ _ (as_fill c.in-Fields.is c.args.s _ c.requires) in record { used_in_bounds = p.0; s_bound = p.1 }

pub fill_offsets-requires : goal.fill_offsets-requires
fill_offsets-requires c = let p = offsets_fill _ _ _ _ (as_fill c.in-Offsets.is c.args.s _ c.requires) in record { used_in_bounds = p.0; s_value = p.1 }

pub returns-in-Fields : goal.returns-in-Fields
returns-in-Fields c = as_filled c.in-Fields.is c.args.s _ _ _ c.fill_fields.ensures

pub returns-in-Offsets : goal.returns-in-Offsets
returns-in-Offsets c = as_filled c.in-Offsets.is c.args.s _ _ _ c.fill_offsets.ensures
