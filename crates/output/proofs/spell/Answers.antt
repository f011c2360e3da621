use Rattle.std.proofs.Common.{rules}
use Rattle.std.proofs.lemmas.Fmt.{length-decimal-le}
use Rattle.std.proofs.lemmas.List.{drop-set}
use Rattle.output.proofs.spell.Goals as goal

-- a word has at most 20 digits
pub write_digits-start-requires : goal.write_digits-start-requires
write_digits-start-requires c = search (rules, length-decimal-le 20)

pub overflow_sub-start : goal.overflow_sub-start
overflow_sub-start c = search (rules, length-decimal-le 20)

pub returns-clause-short : goal.returns-clause-short
returns-clause-short c = search (rules, length-decimal-le 20)

pub returns-clause-written : goal.returns-clause-written
returns-clause-written c = search (rules, drop-set, length-decimal-le 20)
