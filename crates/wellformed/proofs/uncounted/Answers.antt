-- A law for each kind (`ByKind`), and for each word that is read (`Sizes`).
use Rattle.std.proofs.Common.{rules}
use Rattle.wellformed.proofs.Sizes.{fref_name, float_1, float_2, pointer_1, pointer_2, memory_1, memory_2}
use Rattle.wellformed.proofs.ByKind.{plain, a_float, no_float, fref_unnamed, a_fref, bad_nil, a_pointer, bad_alias, a_memory}
use Rattle.wellformed.proofs.uncounted.Goals as goal

pub bounds-e-1 : goal.bounds-e-1
bounds-e-1 c = search float_1

pub bounds-e-2 : goal.bounds-e-2
bounds-e-2 c = search float_2

pub bounds-e-1-in-9 : goal.bounds-e-1-in-9
bounds-e-1-in-9 c = search fref_name

pub bounds-e-2-in-10 : goal.bounds-e-2-in-10
bounds-e-2-in-10 c = search pointer_2

pub bounds-e-1-in-10 : goal.bounds-e-1-in-10
bounds-e-1-in-10 c = search pointer_1

pub bounds-e-1-in-11 : goal.bounds-e-1-in-11
bounds-e-1-in-11 c = search memory_1

pub bounds-e-2-in-11 : goal.bounds-e-2-in-11
bounds-e-2-in-11 c = search memory_2

pub returns-then-float_ok : goal.returns-then-float_ok
returns-then-float_ok c = search (rules, a_float)

pub returns-else-float_ok : goal.returns-else-float_ok
returns-else-float_ok c = search (rules, no_float)

pub returns-then-is_name : goal.returns-then-is_name
returns-then-is_name c = search (rules, a_fref)

pub returns-else-is_name : goal.returns-else-is_name
returns-else-is_name c = search (rules, fref_unnamed)

pub returns-then-e-le-LARGEST_FLAG : goal.returns-then-e-le-LARGEST_FLAG
returns-then-e-le-LARGEST_FLAG c = search (rules, a_pointer)

pub returns-else-e-le-LARGEST_FLAG : goal.returns-else-e-le-LARGEST_FLAG
returns-else-e-le-LARGEST_FLAG c = search (rules, bad_nil)

pub returns-then-e-le-LARGEST_ALIAS : goal.returns-then-e-le-LARGEST_ALIAS
returns-then-e-le-LARGEST_ALIAS c = search (rules, a_memory)

pub returns-else-e-le-LARGEST_ALIAS : goal.returns-else-e-le-LARGEST_ALIAS
returns-else-e-le-LARGEST_ALIAS c = search (rules, bad_alias)

pub returns-in-1-to-5 : goal.returns-in-1-to-5
returns-in-1-to-5 c = search (rules, plain)
