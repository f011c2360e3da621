-- `rows::struct_rows` meets its contract.
use Rattle.rows.proofs.Fields.{struct_2, struct_3, struct_4, struct_4_alias, struct_4_final, struct_5, struct_6, struct_0}
use Rattle.rows.proofs.struct_rows.Goals as goal

pub returns-then-struct_unknown : goal.returns-then-struct_unknown
returns-then-struct_unknown c = search struct_2

pub returns-then-struct_unfit : goal.returns-then-struct_unfit
returns-then-struct_unfit c = search struct_3

pub returns-then-fields-ne0 : goal.returns-then-fields-ne0
returns-then-fields-ne0 c = search struct_4

pub returns-then-not-fields_most : goal.returns-then-not-fields_most
returns-then-not-fields_most c = search struct_4_alias

pub returns-then-not-fields_most-2 : goal.returns-then-not-fields_most-2
returns-then-not-fields_most-2 c = search struct_4_final

pub returns-then-fields-gt-MOST_COUNTED : goal.returns-then-fields-gt-MOST_COUNTED
returns-then-fields-gt-MOST_COUNTED c = search struct_5

pub returns-then-fields_deep-gt-DEEPEST_WITHIN : goal.returns-then-fields_deep-gt-DEEPEST_WITHIN
returns-then-fields_deep-gt-DEEPEST_WITHIN c = search struct_6

pub returns : goal.returns
returns c = search struct_0
