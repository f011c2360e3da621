-- `struct_calls::filling_rows` meets its contract.
use Rattle.struct_calls.proofs.As.{as_filling}
use Rattle.struct_calls.proofs.filling_rows.Goals as goal

pub returns-in-Fields : goal.returns-in-Fields
returns-in-Fields c = as_filling c.in-Fields.is _ _ c.fields_rows.ensures

pub returns-in-Offsets : goal.returns-in-Offsets
returns-in-Offsets c = as_filling c.in-Offsets.is _ _ c.offsets_rows.ensures
