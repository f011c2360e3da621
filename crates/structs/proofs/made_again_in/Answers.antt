use Rattle.std.proofs.Common.{rules}
use Rattle.structs.proofs.Filled.{fields_few, fields_fit, again_made}
use Rattle.structs.proofs.made_again_in.Goals as goal

pub structure-requires : goal.structure-requires
structure-requires g c = record { segments = search rules; fields_bound = (search fields_few, search fields_fit); covers = search rules }

pub returns : goal.returns
returns g c = search again_made
