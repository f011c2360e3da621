-- `struct_calls::filled` meets its contract.
use lib.ListN.{take}
use Rattle.struct_calls.proofs.As.{as_length}
use Rattle.struct_calls.proofs.Needs.{fields_length, places_length}
use Rattle.struct_calls.proofs.filled.Goals as goal

pub returns-in-Fields : goal.returns-in-Fields
returns-in-Fields c = as_length c.in-Fields.is _ _ (fields_length (take c.args.used c.args.words.now) c.args.s _ c.word-n.ensures)

pub returns-in-Offsets : goal.returns-in-Offsets
returns-in-Offsets c = as_length c.in-Offsets.is _ _ (places_length (take c.args.used c.args.words.now) c.args.s _ c.word-n.ensures)
