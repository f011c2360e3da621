use Rattle.std.proofs.Common.{rules}
use Rattle.arrays.proofs.Chain.{reached_covers}
use Rattle.arrays.proofs.Ways.{fields_fit, no_first, named, no_second, length_named, no_third, body_named, made}
use Rattle.arrays.proofs.array.Goals as goal

pub returns-in_err-name : goal.returns-in_err-name
returns-in_err-name c = rw c.from_residual.ensures (no_first c.requires.segments _ _ c.intern_name.ensures _ c.in_err-name.was)

pub intern_name-requires-2-clause-segments : goal.intern_name-requires-2-clause-segments
intern_name-requires-2-clause-segments c = (named c.requires.segments _ _ c.intern_name.ensures c.in_ok-name.was).segments

pub intern_name-requires-2-clause-covers : goal.intern_name-requires-2-clause-covers
intern_name-requires-2-clause-covers c = reached_covers (named c.requires.segments _ _ c.intern_name.ensures c.in_ok-name.was) c.requires.covers

pub returns-in_err-l : goal.returns-in_err-l
returns-in_err-l c = rw c.from_residual-in_err-l.ensures (no_second c.requires.segments _ _ c.intern_name.ensures c.in_ok-name.was _ c.intern_name-2.ensures _ c.in_err-l.was)

pub intern_name-requires-3-clause-segments : goal.intern_name-requires-3-clause-segments
intern_name-requires-3-clause-segments c = (length_named c.requires.segments _ _ c.intern_name.ensures c.in_ok-name.was _ c.intern_name-2.ensures c.in_ok-l.was).segments

pub intern_name-requires-3-clause-covers : goal.intern_name-requires-3-clause-covers
intern_name-requires-3-clause-covers c = reached_covers (length_named c.requires.segments _ _ c.intern_name.ensures c.in_ok-name.was _ c.intern_name-2.ensures c.in_ok-l.was) c.requires.covers

pub returns-in_err-b : goal.returns-in_err-b
returns-in_err-b c = rw c.from_residual-in_err-b.ensures (no_third c.requires.segments _ _ c.intern_name.ensures c.in_ok-name.was _ c.intern_name-2.ensures c.in_ok-l.was _ c.intern_name-3.ensures _ c.in_err-b.was)

pub structure-requires-clause-segments : goal.structure-requires-clause-segments
structure-requires-clause-segments c = (body_named c.requires.segments _ _ c.intern_name.ensures c.in_ok-name.was _ c.intern_name-2.ensures c.in_ok-l.was _ c.intern_name-3.ensures c.in_ok-b.was).segments

pub structure-requires-clause-fields_bound : goal.structure-requires-clause-fields_bound
structure-requires-clause-fields_bound c = (search rules, fields_fit c.requires.text_bound.1 c.requires.text_bound.2)

pub structure-requires-clause-covers : goal.structure-requires-clause-covers
structure-requires-clause-covers c = reached_covers (body_named c.requires.segments _ _ c.intern_name.ensures c.in_ok-name.was _ c.intern_name-2.ensures c.in_ok-l.was _ c.intern_name-3.ensures c.in_ok-b.was) c.requires.covers

pub returns : goal.returns
returns c = made c.requires.segments _ _ c.intern_name.ensures c.in_ok-name.was _ c.intern_name-2.ensures c.in_ok-l.was _ c.intern_name-3.ensures c.in_ok-b.was _ _ _ _ _ c.structure.ensures
