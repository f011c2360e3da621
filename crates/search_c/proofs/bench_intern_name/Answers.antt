use Rattle.search_c.proofs.Told.{left_name}
use Rattle.search_c.proofs.bench_intern_name.Goals as goal

pub returns : goal.returns
returns c = search left_name
