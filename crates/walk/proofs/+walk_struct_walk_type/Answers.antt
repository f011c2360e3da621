-- Each way out is a lemma of Ways.antt or Recall.antt.
use Rattle.std.proofs.Common.{rules, arith, sym, refl, ◌/◌, []}
use Rattle.std.proofs.Math.ListN.{length-set}
use lib.Seq.{length-take-le}
use Rattle.parts.proofs.Grew.{grew_long, grew_high, grew_up, grew_covers}
use Rattle.walk.proofs.Recall.{walked_known, walked_noted}
use Rattle.walk.proofs.Ways.{walked_is, walked_ints, float_size, walked_floats, pointer_flag, pointer_next, pointer_full, pointer_required, walked_pointers, memory_next, memory_full, memory_required, walked_memories, walk_few, tuple_begin, tuple_stop, tuple_end, struct_begin, struct_stop, struct_values, struct_end, part_next, part_turn, part_small}
use Rattle.walk.proofs.+walk_struct_walk_type.Goals as goal

pub walk_struct-loop-i-init : goal.walk_struct-loop-i-init
walk_struct-loop-i-init t c =
    let P = c.requires.ready_one in
    let k = sym c.requires.a_value in
    let x = c.word.ensures in
    record {
      few = walk_few _ _ _ _ _ P _ k _ x;
      long = refl;
      same_long = refl;
      within = P.within;
      onward = search rules;
      over = P.over;
      near = omega (arith, P.near, P.within, P.small);
      going = struct_begin _ _ _ _ _ P _ k _ x refl _;
      right = c.requires.remembers;
    }

pub walk_struct-walk_type-requires : goal.walk_struct-walk_type-requires
walk_struct-walk_type-requires t c =
    let l = c.loop-i.invariant in
    let n = part_next _ 3 3 _ _ _ _ _ c.loop-i.new _ _ _ l.going c.loop-i-test.true _ _ (omega arith) c.word-x.ensures in
    (omega (arith, n.0), (n.1, (l.right, grew_covers l.going.turn.grew c.requires.covers)))

pub walk_struct-returns-in_err-m-clause-walked : goal.walk_struct-returns-in_err-m-clause-walked
walk_struct-returns-in_err-m-clause-walked t c =
    let P = c.requires.ready_one in
    let k = sym c.requires.a_value in
    let x = c.word.ensures in
    rw c.from_residual.ensures (struct_stop _ _ _ _ _ P _ k _ x refl _ _ _ _ c.loop-i.invariant.going c.loop-i-test.true _ c.word-x.ensures _ _ c.walk_type.ensures.walked c.in_err-m.was []).0

pub walk_struct-overflow_cast-types : goal.walk_struct-overflow_cast-types
walk_struct-overflow_cast-types t c =
    let l = c.loop-i.invariant in
    omega (arith, part_small _ 3 3 _ _ _ _ _ c.loop-i.new _ _ _ l.going c.loop-i-test.true _ _ (omega arith) c.word-x.ensures c.walk_type.ensures.walked _ _ c.in_ok-m.was)

pub walk_struct-loop-i-preserved : goal.walk_struct-loop-i-preserved
walk_struct-loop-i-preserved t c =
    let l = c.loop-i.invariant in
    let i = c.loop-i-test.true in
    let G = part_turn _ 3 3 _ _ _ _ _ c.loop-i.new _ _ _ l.going i _ _ (omega arith) c.word-x.ensures c.walk_type.ensures.walked _ _ c.in_ok-m.was (omega (arith, l.few, l.long, i)) in
    record {
      few = l.few;
      long = simp length-set l.long;
      same_long = grew_long G.turn.grew;
      within = grew_high G.turn.grew;
      onward = grew_up G.turn.grew;
      over = l.over;
      near = l.near;
      going = G;
      right = c.walk_type.ensures.remembered.is _ _ c.in_ok-m.was;
    }

pub walk_struct-fields_of-requires-clause-types_len_bound : goal.walk_struct-fields_of-requires-clause-types_len_bound
walk_struct-fields_of-requires-clause-types_len_bound t c =
    let l = c.loop-i.invariant in
    let n = length-take-le (c.word.result / 65536) c.loop-i.types (omega (arith, l.few, l.long)) in
    (omega (arith, n, l.few), l.near, rw n (struct_values _ _ _ _ _ c.requires.ready_one _ (sym c.requires.a_value) _ c.word.ensures refl _ _ _ _ l.going))

pub walk_struct-returns : goal.walk_struct-returns
walk_struct-returns t c =
    let l = c.loop-i.invariant in
    let both = struct_end _ _ _ _ _ c.requires.ready_one _ (sym c.requires.a_value) _ c.word.ensures refl _ _ _ _ l.going (omega arith) (omega arith) _ _ c.fields_of.ensures _ l.right in
    record { walked = both.0; remembered = both.1 }

pub walk_type-returns-in-Some : goal.walk_type-returns-in-Some
walk_type-returns-in-Some t c =
    let both = walked_known c.requires.ready_one c.walk_key-key.ensures c.requires.remembers c.recall.ensures _ c.in-Some.is in
    record { walked = both.0; remembered = both.1 }

pub walk_type-float_of-requires-clause-a_lt_longest_allowed : goal.walk_type-float_of-requires-clause-a_lt_longest_allowed
walk_type-float_of-requires-clause-a_lt_longest_allowed t c =
    let P = c.requires.ready_one in
    (omega (arith, P.near, P.within, P.small), float_size _ _ _ _ _ P _ c.form_of-form.ensures c.in-AFloat.is)

pub walk_type-nil_of-nil-requires : goal.walk_type-nil_of-nil-requires
walk_type-nil_of-nil-requires t c = pointer_flag _ _ _ _ _ c.requires.ready_one _ c.form_of-form.ensures c.in-APointer.is _ c.word.ensures

pub walk_type-walk_type-requires : goal.walk_type-walk_type-requires
walk_type-walk_type-requires t c =
    let n = pointer_next _ _ _ _ _ c.requires.ready_one _ c.form_of-form.ensures c.in-APointer.is _ c.word-x.ensures in
    (omega (arith, n.0), (n.1, (c.requires.remembers, c.requires.covers)))

pub walk_type-returns-in_err-m-in-APointer-clause-walked : goal.walk_type-returns-in_err-m-in-APointer-clause-walked
walk_type-returns-in_err-m-in-APointer-clause-walked t c =
    rw c.from_residual.ensures (pointer_full _ _ _ _ _ c.requires.ready_one _ c.form_of-form.ensures c.in-APointer.is _ c.word-x.ensures _ _ _ (c.walk_type.ensures.walked, c.walk_type.ensures.remembered) c.in_err-m-in-APointer.was).0

pub walk_type-pointer-r-requires : goal.walk_type-pointer-r-requires
walk_type-pointer-r-requires t c =
    let so = pointer_required _ _ _ _ _ c.requires.ready_one _ c.form_of-form.ensures c.in-APointer.is _ c.word-x.ensures _ _ _ (c.walk_type.ensures.walked, c.walk_type.ensures.remembered) _ _ c.in_ok-m-in-APointer.was c.requires.covers in
    record { segments = so.0; covers = so.1 }

pub walk_type-walk_type-requires-in-AMemory : goal.walk_type-walk_type-requires-in-AMemory
walk_type-walk_type-requires-in-AMemory t c =
    let n = memory_next _ _ _ _ _ c.requires.ready_one _ c.form_of-form.ensures c.in-AMemory.is _ c.word-x-in-AMemory.ensures in
    (omega (arith, n.0), (n.1, (c.requires.remembers, c.requires.covers)))

pub walk_type-returns-in_err-m-in-AMemory-clause-walked : goal.walk_type-returns-in_err-m-in-AMemory-clause-walked
walk_type-returns-in_err-m-in-AMemory-clause-walked t c =
    rw c.from_residual-in_err-m-in-AMemory.ensures (memory_full _ _ _ _ _ c.requires.ready_one _ c.form_of-form.ensures c.in-AMemory.is _ c.word-x-in-AMemory.ensures _ _ _ (c.walk_type-in-AMemory.ensures.walked, c.walk_type-in-AMemory.ensures.remembered) c.in_err-m-in-AMemory.was).0

pub walk_type-memory-r-requires : goal.walk_type-memory-r-requires
walk_type-memory-r-requires t c =
    let so = memory_required _ _ _ _ _ c.requires.ready_one _ c.form_of-form.ensures c.in-AMemory.is _ c.word-x-in-AMemory.ensures _ _ _ (c.walk_type-in-AMemory.ensures.walked, c.walk_type-in-AMemory.ensures.remembered) _ _ c.in_ok-m-in-AMemory.was c.requires.covers in
    record { segments = so.0; covers = so.1 }

pub walk_type-loop-i-init : goal.walk_type-loop-i-init
walk_type-loop-i-init t c =
    let P = c.requires.ready_one in
    let k = c.form_of-form.ensures in
    let x = c.word-in-ATuple.ensures in
    record {
      few = walk_few _ _ _ _ _ P _ k _ x;
      long = refl;
      same_long = refl;
      within = P.within;
      onward = search rules;
      over = P.over;
      near = omega (arith, P.near, P.within, P.small);
      going = tuple_begin _ _ _ _ _ P _ k _ x c.in-ATuple.is _;
      right = c.requires.remembers;
    }

pub walk_type-walk_type-requires-in-loop-i : goal.walk_type-walk_type-requires-in-loop-i
walk_type-walk_type-requires-in-loop-i t c =
    let l = c.loop-i.invariant in
    let n = part_next _ 1 1 _ _ _ _ _ c.loop-i.new _ _ _ l.going c.loop-i-test.true _ _ (omega arith) c.word-x-in-loop-i.ensures in
    (omega (arith, n.0), (n.1, (l.right, grew_covers l.going.turn.grew c.requires.covers)))

pub walk_type-returns-in_err-m-in-ATuple-clause-walked : goal.walk_type-returns-in_err-m-in-ATuple-clause-walked
walk_type-returns-in_err-m-in-ATuple-clause-walked t c =
    rw c.from_residual-in_err-m-in-ATuple.ensures (tuple_stop _ _ _ _ _ c.requires.ready_one _ c.form_of-form.ensures _ c.word-in-ATuple.ensures c.in-ATuple.is _ _ _ _ c.loop-i.invariant.going c.loop-i-test.true _ c.word-x-in-loop-i.ensures _ _ c.walk_type-in-loop-i.ensures.walked c.in_err-m-in-ATuple.was []).0

pub walk_type-overflow_cast-parts : goal.walk_type-overflow_cast-parts
walk_type-overflow_cast-parts t c =
    let l = c.loop-i.invariant in
    omega (arith, part_small _ 1 1 _ _ _ _ _ c.loop-i.new _ _ _ l.going c.loop-i-test.true _ _ (omega arith) c.word-x-in-loop-i.ensures c.walk_type-in-loop-i.ensures.walked _ _ c.in_ok-m-in-ATuple.was)

pub walk_type-loop-i-preserved : goal.walk_type-loop-i-preserved
walk_type-loop-i-preserved t c =
    let l = c.loop-i.invariant in
    let i = c.loop-i-test.true in
    let G = part_turn _ 1 1 _ _ _ _ _ c.loop-i.new _ _ _ l.going i _ _ (omega arith) c.word-x-in-loop-i.ensures c.walk_type-in-loop-i.ensures.walked _ _ c.in_ok-m-in-ATuple.was (omega (arith, l.few, l.long, i)) in
    record {
      few = l.few;
      long = simp length-set l.long;
      same_long = grew_long G.turn.grew;
      within = grew_high G.turn.grew;
      onward = grew_up G.turn.grew;
      over = l.over;
      near = l.near;
      going = G;
      right = c.walk_type-in-loop-i.ensures.remembered.is _ _ c.in_ok-m-in-ATuple.was;
    }

pub walk_type-returns-in-Is : goal.walk_type-returns-in-Is
walk_type-returns-in-Is t c =
    let both = walked_is _ _ _ _ _ c.requires.ready_one _ c.form_of-form.ensures _ c.requires.remembers _ c.in-Is.is in
    record { walked = both.0; remembered = both.1 }

pub walk_type-returns-in-AnInt : goal.walk_type-returns-in-AnInt
walk_type-returns-in-AnInt t c =
    let both = walked_ints _ _ _ _ _ c.requires.ready_one _ c.form_of-form.ensures _ c.requires.remembers c.in-AnInt.is _ _ c.int_of.ensures in
    record { walked = both.0; remembered = both.1 }

pub walk_type-returns-in-AFloat : goal.walk_type-returns-in-AFloat
walk_type-returns-in-AFloat t c =
    let both = walked_floats _ _ _ _ _ c.requires.ready_one _ c.form_of-form.ensures _ c.requires.remembers c.in-AFloat.is _ _ c.float_of.ensures in
    record { walked = both.0; remembered = both.1 }

pub walk_type-returns-in-AStruct : goal.walk_type-returns-in-AStruct
walk_type-returns-in-AStruct t c =
    let both = walked_noted c.requires.ready_one c.walk_key-key.ensures (c.walk_struct-r.ensures.walked, c.walk_struct-r.ensures.remembered) c.noted.ensures.learned _ c.noted.ensures.value in
    record { walked = both.0; remembered = both.1 }

pub walk_type-returns-in_ok-m-in-APointer : goal.walk_type-returns-in_ok-m-in-APointer
walk_type-returns-in_ok-m-in-APointer t c =
    let both = walked_noted c.requires.ready_one c.walk_key-key.ensures (walked_pointers _ _ _ _ _ c.requires.ready_one _ c.form_of-form.ensures c.in-APointer.is _ c.word-x.ensures _ _ _ (c.walk_type.ensures.walked, c.walk_type.ensures.remembered) _ _ c.in_ok-m-in-APointer.was _ _ c.word.ensures c.nil_of-nil.ensures _ _ c.pointer-r.ensures) c.noted-in-APointer.ensures.learned _ c.noted-in-APointer.ensures.value in
    record { walked = both.0; remembered = both.1 }

pub walk_type-returns-in_ok-m-in-AMemory : goal.walk_type-returns-in_ok-m-in-AMemory
walk_type-returns-in_ok-m-in-AMemory t c =
    let both = walked_noted c.requires.ready_one c.walk_key-key.ensures (walked_memories _ _ _ _ _ c.requires.ready_one _ c.form_of-form.ensures c.in-AMemory.is _ c.word-x-in-AMemory.ensures _ _ _ (c.walk_type-in-AMemory.ensures.walked, c.walk_type-in-AMemory.ensures.remembered) _ _ c.in_ok-m-in-AMemory.was _ c.word-alias.ensures _ _ c.memory-r.ensures) c.noted-in-AMemory.ensures.learned _ c.noted-in-AMemory.ensures.value in
    record { walked = both.0; remembered = both.1 }

pub walk_type-returns-after-loop-i : goal.walk_type-returns-after-loop-i
walk_type-returns-after-loop-i t c =
    let l = c.loop-i.invariant in
    let both = walked_noted c.requires.ready_one c.walk_key-key.ensures (tuple_end _ _ _ _ _ c.requires.ready_one _ c.form_of-form.ensures _ c.word-in-ATuple.ensures c.in-ATuple.is _ _ _ _ l.going (omega arith) (omega arith) _ _ c.tuple_of-r.ensures _ l.right) c.noted-in-ATuple.ensures.learned _ c.noted-in-ATuple.ensures.value in
    record { walked = both.0; remembered = both.1 }
