-- `rows::struct_unfit` meets its contract.
use Rattle.rows.proofs.Fields.{unfit_name, unfit_names, unfit_types}
use Rattle.rows.proofs.struct_unfit.Goals as goal

pub returns-then-not-all_kinds : goal.returns-then-not-all_kinds
returns-then-not-all_kinds c = search unfit_name

pub returns-then-not-fields_kind : goal.returns-then-not-fields_kind
returns-then-not-fields_kind c = search unfit_names

pub returns : goal.returns
returns c = search unfit_types
