-- The rows of calls on fields, and then its own.
use Rattle.std.proofs.Common.{rules}
use Rattle.call.proofs.Refusals.{first_rows, no_row}
use Rattle.of_offsets.proofs.Column.{fields_inside, offsets_9, offsets_0}
use Rattle.of_offsets.proofs.offsets_rows.Goals as goal

pub returns-in_err-fields_rows : goal.returns-in_err-fields_rows
returns-in_err-fields_rows c = first_rows _ _ _ _ _ c.fields_rows.ensures c.in_err-fields_rows.was c.from_residual.ensures.1

pub unsized_field-requires : goal.unsized_field-requires
unsized_field-requires c = (search rules, fields_inside _ _ _ _ c.requires (no_row _ _ _ c.fields_rows.ensures c.in_ok-fields_rows.was))

pub returns-then-unsized_field : goal.returns-then-unsized_field
returns-then-unsized_field c = offsets_9 _ _ (no_row _ _ _ c.fields_rows.ensures c.in_ok-fields_rows.was) _ c.unsized_field.ensures c.if-unsized_field.true

pub returns : goal.returns
returns c = offsets_0 _ _ (no_row _ _ _ c.fields_rows.ensures c.in_ok-fields_rows.was) _ c.unsized_field.ensures c.if-unsized_field.false
