-- `of_structs::field_name` meets its contract.
use Rattle.of_structs.proofs.Matches.{name_low}
use borrow.Author.Rules.{rules}
use Rattle.of_structs.proofs.field_name.Goals as goal

pub returns : goal.returns
returns c = (search rules, search name_low)
