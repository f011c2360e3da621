-- A law for each kind that counts (`ByKind`), and for each word that is read (`Sizes`).
use Rattle.std.proofs.Common.{rules}
use Rattle.wellformed.proofs.Sizes.{head_in, tuple_in, struct_in, struct_name}
use Rattle.wellformed.proofs.ByKind.{too_large, deep_name, a_name, a_tuple, struct_unnamed, a_struct, counted}
use Rattle.wellformed.proofs.entry.Goals as goal

pub bounds-e-0 : goal.bounds-e-0
bounds-e-0 c = search head_in

pub returns-then-n-gt-MOST_COUNTED : goal.returns-then-n-gt-MOST_COUNTED
returns-then-n-gt-MOST_COUNTED c = too_large _ _ c.then-n-gt-MOST_COUNTED.either

pub padding-requires : goal.padding-requires
padding-requires c = search head_in

pub bounds-e-1 : goal.bounds-e-1
bounds-e-1 c = search struct_name

pub fields-requires-clause-e_len : goal.fields-requires-clause-e_len
fields-requires-clause-e_len c = search struct_in

pub returns-then-depth-eq0 : goal.returns-then-depth-eq0
returns-then-depth-eq0 c = search (rules, a_name)

pub returns-else-depth-eq0 : goal.returns-else-depth-eq0
returns-else-depth-eq0 c = search (rules, deep_name)

pub returns-in-7 : goal.returns-in-7
returns-in-7 c = search (rules, a_tuple, tuple_in)

pub returns-then-is_name : goal.returns-then-is_name
returns-then-is_name c = search (rules, a_struct)

pub returns-else-is_name : goal.returns-else-is_name
returns-else-is_name c = search (rules, struct_unnamed)

pub returns-else-n-eq0 : goal.returns-else-n-eq0
returns-else-n-eq0 c = search (rules, counted)
