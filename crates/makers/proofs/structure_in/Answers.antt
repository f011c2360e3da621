use Rattle.makers.proofs.Fields.{struct_made}
use Rattle.makers.proofs.structure_in.Goals as goal

pub returns : goal.returns
returns g c = struct_made _ _ _ _ _ c.args.name c.args.fields.now _ _ _ c.fields_deep-d.ensures.0 c.struct_words.ensures c.intern.ensures
