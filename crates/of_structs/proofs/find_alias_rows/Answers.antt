-- `of_structs::find_alias_rows` meets its contract.
use Rattle.of_structs.proofs.Column.{alias_2, alias_3, alias_4, alias_7, alias_0}
use Rattle.of_structs.proofs.find_alias_rows.Goals as goal

pub returns-then-not-all_start : goal.returns-then-not-all_start
returns-then-not-all_start c = search alias_2

pub returns-then-not-all_kinds : goal.returns-then-not-all_kinds
returns-then-not-all_kinds c = search alias_3

pub returns-then-alias-gt-LARGEST_ALIAS : goal.returns-then-alias-gt-LARGEST_ALIAS
returns-then-alias-gt-LARGEST_ALIAS c = search alias_4

pub returns-then-kind_on-eq-FREF : goal.returns-then-kind_on-eq-FREF
returns-then-kind_on-eq-FREF c = search alias_7

pub returns : goal.returns
returns c = search alias_0
