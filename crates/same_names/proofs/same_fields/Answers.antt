use Rattle.std.proofs.Common.{rules}
use Rattle.same_names.proofs.Alike.{low_this, low_more, fields_name, fields_alias, fields_more, fields_end}
use Rattle.same_names.proofs.same_fields.Goals as goal

pub same_name-requires : goal.same_name-requires
same_name-requires c = record { len_bound = search rules; p_bound = (search low_this, search low_this) }

pub returns-then-not-same_name : goal.returns-then-not-same_name
returns-then-not-same_name c = search fields_name

pub returns-then-f-g : goal.returns-then-f-g
returns-then-f-g c = search fields_alias

pub loop-i-preserved : goal.loop-i-preserved
loop-i-preserved c = (search low_more, search low_more, search fields_more)

pub returns : goal.returns
returns c = search fields_end
