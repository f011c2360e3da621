-- Every call's operation only appends. Assumes nothing.
use Rattle.std.proofs.Common.{ℕ, suc, max, Bool, true, false, cond, eqb, List}
use Rattle.words.specs.Made.{Grown, make, there}
use Rattle.words.proofs.Extend.{Extends, ext_same, ext_then}
use Rattle.words.proofs.Placed.{make_extends}
use Rattle.names.specs.Name.{name_entry, wrapped}
use Rattle.makers.specs.Makers.{make_ary, length_name, body_name}
use Rattle.meet.proofs.Grows.{meet_grows}
use Rattle.walk_rules.specs.declared.Walk.TheVariants.{Dual}
use Rattle.walk.specs.Walk.{dual_of}
use Rattle.walk.proofs.Grows.{walk_grows}
use Rattle.join.specs.Join.{join_with, join_of}
use Rattle.join.proofs.Steps.{with_grows}
use Rattle.make_ro.proofs.Grows.{make_ro_grows}
use Rattle.every_call.proofs.MeetList.{merge_grows}
use Rattle.every_call.proofs.NonZero.{non_zero_grows}
use Rattle.making.specs.declared.Making.{Making}
use Rattle.making.specs.declared.Making.TheVariants as Making-variants
use Rattle.making.specs.Making.{op_of}

ary_grows : (len la body ba : ℕ) (text u : List ℕ) → Extends u (make_ary len la body ba text u).words
ary_grows len la body ba text u =
    let name = make u (name_entry (wrapped true text)) in
    let first = make name.words (name_entry length_name) in
    let second = make first.words (name_entry body_name) in
    ext_then u name.words _ (make_extends u _)
    (ext_then name.words first.words _ (make_extends name.words _) (ext_then first.words second.words _ (make_extends first.words _) (make_extends second.words _)))

join_grows : (u : List ℕ) (a b : ℕ) → Extends u (join_of u a b).words
join_grows u a b = go (eqb a b)
  where
    d : Grown
    d = dual_of u a

    go : (t : Bool) → Extends u (cond t (there u a) (join_with (dual_of u a).words (dual_of u a).handle b)).words
    go true = ext_same u
    go false = ext_then u (dual_of u a).words _ (walk_grows Dual (suc a) u a) (with_grows (dual_of u a).words (dual_of u a).handle b)

pub making_grows : (m : Making) (list text u : List ℕ) → Extends u (op_of m list text u).words
making_grows (Making-variants.MakeInt min max) list text u = make_extends u _
making_grows (Making-variants.MakeFloat sz bits) list text u = make_extends u _
making_grows Making-variants.GetStr list text u = make_extends u _
making_grows Making-variants.GetTuple list text u = make_extends u _
making_grows (Making-variants.GetStruct name) list text u = make_extends u _
making_grows (Making-variants.MakeAry len la body ba) list text u = ary_grows len la body ba text u
making_grows (Making-variants.MakeStructFref name) list text u = make_extends u _
making_grows (Making-variants.GetMemPtr to nil) list text u = make_extends u _
making_grows (Making-variants.GetMem alias t) list text u = make_extends u _
making_grows (Making-variants.Meet a b) list text u = meet_grows (suc (max a b)) u a b
making_grows Making-variants.MeetList list text u = merge_grows 6 list u
making_grows (Making-variants.Join a b) list text u = join_grows u a b
making_grows (Making-variants.Walk walk a) list text u = walk_grows walk (suc a) u a
making_grows (Making-variants.MakeRo a) list text u = make_ro_grows (suc a) u a
making_grows (Making-variants.NonZero a) list text u = non_zero_grows u a
