-- The calls that append, as the values that the functions take: which call each is, its rows and its operation on the used words `u`. A call's lists are lent
-- beside it: `list` the types of a tuple or of a merge, or the fields of a struct, `text` the bytes of a name. That `run` of the call is the rows and then the operation is
-- `appended_is` (proofs/As.antt), each line by computation.
use Rattle.std.specs.Prelude.{ℕ, not, List, [], ◌∷◌, length, nat_lt}
use Rattle.words.specs.Made.{Grown, make}
use Rattle.wellformed.specs.Entry.{most_counted, is_type, is_struct, is_flag, is_alias, float_ok}
use Rattle.call.specs.Call.{◌when◌}
use Rattle.call.specs.Handles.{types_rows}
use Rattle.names.specs.Name.{name_entry}
use Rattle.makers.specs.Entries.{int_entry, stored_size, float_entry, tuple_entry, fref_entry, pointer_entry, memory_entry, struct_entry}
use Rattle.makers.specs.Makers.{tuple_rows, fref_rows, part_rows, struct_rows, ary_rows, make_ary}
use Rattle.meet.specs.Meet.{meet_of}
use Rattle.walk_rules.specs.declared.Walk.{Walk}
use Rattle.walk_rules.specs.declared.Walk.TheVariants.{Dual, Glb, Lub}
use Rattle.walk.specs.Walk.{walk_of}
use Rattle.join.specs.Join.{join_of}
use Rattle.make_ro.specs.ReadOnly.{make_ro_of}
use Rattle.every_call.specs.MeetList.{meet_list_rows, meet_list_of}
use Rattle.every_call.specs.NonZero.{non_zero_of}
use Rattle.every_call.specs.Run as Run
use Rattle.making.specs.declared.Making.{Making}
use Rattle.making.specs.declared.Making.TheVariants as Making-variants

abbrev pub walked : Walk → ℕ → Run.Call
walked Dual a = Run.dual a
walked Glb a = Run.glb a
walked Lub a = Run.lub a

-- the call that a value is, with its lists
abbrev pub appended : Making → List ℕ → List ℕ → Run.Call
appended (Making-variants.MakeInt min max) list text = Run.make_int min max
appended (Making-variants.MakeFloat sz bits) list text = Run.make_float sz bits
appended Making-variants.GetStr list text = Run.get_str text
appended Making-variants.GetTuple list text = Run.get_tuple list
appended (Making-variants.GetStruct name) list text = Run.get_struct name list
appended (Making-variants.MakeAry len lenAlias body bodyAlias) list text = Run.make_ary_is len lenAlias body bodyAlias text
appended (Making-variants.MakeStructFref name) list text = Run.make_struct_fref name
appended (Making-variants.GetMemPtr to nil) list text = Run.get_mem_ptr to nil
appended (Making-variants.GetMem alias t) list text = Run.get_mem alias t
appended (Making-variants.Meet a b) list text = Run.meet a b
appended Making-variants.MeetList list text = Run.meet_list list
appended (Making-variants.Join a b) list text = Run.join a b
appended (Making-variants.Walk walk a) list text = walked walk a
appended (Making-variants.MakeRo a) list text = Run.make_ro a
appended (Making-variants.NonZero a) list text = Run.non_zero a

-- its rows, past row 1 and before row 12
abbrev pub rows_of : Making → List ℕ → List ℕ → List ℕ → ℕ
rows_of (Making-variants.MakeInt min max) list text = λ u. 0
rows_of (Making-variants.MakeFloat sz bits) list text = λ u. 4 when not (float_ok (stored_size sz) bits)
rows_of Making-variants.GetStr list text = λ u. 5 when nat_lt most_counted (length text)
rows_of Making-variants.GetTuple list text = tuple_rows list
rows_of (Making-variants.GetStruct name) list text = struct_rows name list
rows_of (Making-variants.MakeAry len lenAlias body bodyAlias) list text = ary_rows len lenAlias body bodyAlias text
rows_of (Making-variants.MakeStructFref name) list text = fref_rows name
rows_of (Making-variants.GetMemPtr to nil) list text = part_rows is_struct (is_flag nil) to
rows_of (Making-variants.GetMem alias t) list text = part_rows is_type (is_alias alias) t
rows_of (Making-variants.Meet a b) list text = types_rows (a ∷ b ∷ [])
rows_of Making-variants.MeetList list text = meet_list_rows list
rows_of (Making-variants.Join a b) list text = types_rows (a ∷ b ∷ [])
rows_of (Making-variants.Walk walk a) list text = types_rows (a ∷ [])
rows_of (Making-variants.MakeRo a) list text = types_rows (a ∷ [])
rows_of (Making-variants.NonZero a) list text = types_rows (a ∷ [])

-- its operation
abbrev pub op_of : Making → List ℕ → List ℕ → List ℕ → Grown
op_of (Making-variants.MakeInt min max) list text = λ u. make u (int_entry min max)
op_of (Making-variants.MakeFloat sz bits) list text = λ u. make u (float_entry (stored_size sz) bits)
op_of Making-variants.GetStr list text = λ u. make u (name_entry text)
op_of Making-variants.GetTuple list text = λ u. make u (tuple_entry list u)
op_of (Making-variants.GetStruct name) list text = λ u. make u (struct_entry name list u)
op_of (Making-variants.MakeAry len lenAlias body bodyAlias) list text = make_ary len lenAlias body bodyAlias text
op_of (Making-variants.MakeStructFref name) list text = λ u. make u (fref_entry name)
op_of (Making-variants.GetMemPtr to nil) list text = λ u. make u (pointer_entry to nil u)
op_of (Making-variants.GetMem alias t) list text = λ u. make u (memory_entry alias t u)
op_of (Making-variants.Meet a b) list text = λ u. meet_of u a b
op_of Making-variants.MeetList list text = meet_list_of list
op_of (Making-variants.Join a b) list text = λ u. join_of u a b
op_of (Making-variants.Walk walk a) list text = λ u. walk_of walk u a
op_of (Making-variants.MakeRo a) list text = λ u. make_ro_of u a
op_of (Making-variants.NonZero a) list text = λ u. non_zero_of u a
