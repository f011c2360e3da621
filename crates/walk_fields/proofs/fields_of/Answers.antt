use Rattle.std.proofs.Common.{rules}
use Rattle.walk_fields.proofs.Finals.{finals_many, finals_fit, fields_walked}
use Rattle.walk_fields.proofs.fields_of.Goals as goal

pub made_again-requires : goal.made_again-requires
made_again-requires c = record {
  segments = search rules;
  types_len_bound = (search rules, search finals_many, search rules);
  a_value = (search rules, search finals_fit);
  covers = search rules;
}

pub returns : goal.returns
returns c = search fields_walked
