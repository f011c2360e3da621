-- `rows::ary_rows` meets its contract.
use Rattle.rows.proofs.Arrays.{ary_2, ary_3_length, ary_3_body, ary_4_length, ary_4_body, ary_5, ary_6, ary_10, ary_0}
use Rattle.rows.proofs.ary_rows.Goals as goal

pub returns-then-not-all_start : goal.returns-then-not-all_start
returns-then-not-all_start c = search ary_2

pub returns-then-not-all_kinds : goal.returns-then-not-all_kinds
returns-then-not-all_kinds c = search ary_3_length

pub returns-then-not-all_kinds-2 : goal.returns-then-not-all_kinds-2
returns-then-not-all_kinds-2 c = search ary_3_body

pub returns-then-len_alias-gt-LARGEST_ALIAS : goal.returns-then-len_alias-gt-LARGEST_ALIAS
returns-then-len_alias-gt-LARGEST_ALIAS c = search ary_4_length

pub returns-then-body_alias-gt-LARGEST_ALIAS : goal.returns-then-body_alias-gt-LARGEST_ALIAS
returns-then-body_alias-gt-LARGEST_ALIAS c = search ary_4_body

pub returns-then-text-gt-LONGEST_TEXT : goal.returns-then-text-gt-LONGEST_TEXT
returns-then-text-gt-LONGEST_TEXT c = search ary_5

pub returns-then-deep-gt-DEEPEST_WITHIN : goal.returns-then-deep-gt-DEEPEST_WITHIN
returns-then-deep-gt-DEEPEST_WITHIN c = search ary_6

pub returns-then-never_nil : goal.returns-then-never_nil
returns-then-never_nil c = search ary_10

pub returns : goal.returns
returns c = search ary_0
