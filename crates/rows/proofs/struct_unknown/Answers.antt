-- `rows::struct_unknown` meets its contract.
use Rattle.rows.proofs.Fields.{not_first, not_second, not_third}
use Rattle.rows.proofs.struct_unknown.Goals as goal

pub returns-then-not-all_start : goal.returns-then-not-all_start
returns-then-not-all_start c = search not_first

pub returns-then-not-fields_start : goal.returns-then-not-fields_start
returns-then-not-fields_start c = search not_second

pub returns : goal.returns
returns c = search not_third
