use Rattle.std.proofs.Common.{rules}
use Rattle.structs.proofs.Narrow.{widened_few, tuple_made}
use Rattle.structs.proofs.tuple_in.Goals as goal

pub tuple-requires : goal.tuple-requires
tuple-requires g c = record { segments = search rules; types_len_bound = search widened_few; covers = search rules }

pub returns : goal.returns
returns g c = search tuple_made
