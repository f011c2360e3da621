-- Each way out is a lemma of Ways.antt or Recall.antt.
use Rattle.std.proofs.Common.{rules, arith, refl, ◌/◌}
use Rattle.std.proofs.Math.ListN.{length-set}
use lib.Seq.{length-take-le}
use Rattle.parts.proofs.Good.{ready_segments}
use Rattle.parts.proofs.Grew.{grew_long, grew_high, grew_up, grew_covers}
use Rattle.meet_types.proofs.Recall.{remembered_same, remembered_full, remembered_entry, remembered_pointer, remembered_memory, remembered_fields, met_known, met_noted, struct_known, struct_noted}
use Rattle.meet_types.proofs.Loop.{going_segments}
use Rattle.meet_types.proofs.Ways.{met_first, met_second, met_bottom, met_ints, float_sizes, met_floats, ready_structs, met_structs, pointer_next, pointer_full, pointer_segments, pointer_required, met_pointers, memory_next, memory_full, memory_segments, memory_required, met_memories, tuple_few, tuple_begin, tuple_stop, tuple_end, tuple_next, tuple_turn, tuple_small, names_below, met_former, met_latter, met_lowest, struct_few, struct_begin, struct_stop, struct_end, struct_values, struct_next, struct_turn, struct_small}
use Rattle.meet_types.proofs.+meet_struct_meet_type.Goals as goal

pub meet_struct-struct_rule-rule-requires-clause-a_lt_longest_allowed : goal.meet_struct-struct_rule-rule-requires-clause-a_lt_longest_allowed
meet_struct-struct_rule-rule-requires-clause-a_lt_longest_allowed t c = names_below _ _ _ _ _ c.requires.ready

pub meet_struct-returns-in-Some : goal.meet_struct-returns-in-Some
meet_struct-returns-in-Some t c = record { met_struct = struct_known c.requires.ready _ c.pair_key-key.ensures c.requires.remembers c.recall.ensures _ c.in-Some.is; remembered = remembered_same c.requires.remembers }

pub meet_struct-loop-i-init : goal.meet_struct-loop-i-init
meet_struct-loop-i-init t c =
    let P = c.requires.ready in
    let k = c.struct_rule-rule.ensures in
    let e = c.in-Fields.is in
    let x = c.word.ensures in
    record {
      few = struct_few _ _ _ _ _ P _ k e _ x;
      long = refl;
      same_long = refl;
      within = P.within;
      onward = search rules;
      over = P.over;
      first_near = omega (arith, P.near, P.within, P.small);
      second_near = omega (arith, P.next, P.within, P.small);
      going = struct_begin _ _ _ _ _ P _ k e _ x _;
      right = c.requires.remembers;
    }

pub meet_struct-meet_type-requires : goal.meet_struct-meet_type-requires
meet_struct-meet_type-requires t c =
    let n = struct_next _ _ _ _ _ _ c.loop-i.new _ _ _ c.loop-i.invariant.going c.loop-i-test.true _ _ c.word-x.ensures c.word-y.ensures in
    (omega (arith, n.0, n.1), (n.2, (c.loop-i.invariant.right, grew_covers c.loop-i.invariant.going.turn.grew c.requires.covers)))

pub meet_struct-returns-in_err-m-in-Fields-clause-met_struct : goal.meet_struct-returns-in_err-m-in-Fields-clause-met_struct
meet_struct-returns-in_err-m-in-Fields-clause-met_struct t c = rw c.from_residual.ensures (struct_stop _ _ _ _ _ c.requires.ready _ c.struct_rule-rule.ensures c.in-Fields.is _ c.word.ensures _ _ _ _ c.loop-i.invariant.going c.loop-i-test.true _ _ c.word-x.ensures c.word-y.ensures _ _ c.meet_type.ensures.met c.in_err-m-in-Fields.was)

pub meet_struct-overflow_cast-types : goal.meet_struct-overflow_cast-types
meet_struct-overflow_cast-types t c =
    let l = c.loop-i.invariant in
    let i = c.loop-i-test.true in
    omega (arith, struct_small _ _ _ _ _ _ c.loop-i.new _ _ _ l.going i _ _ c.word-x.ensures c.word-y.ensures c.meet_type.ensures.met _ _ c.in_ok-m-in-Fields.was)

pub meet_struct-loop-i-preserved : goal.meet_struct-loop-i-preserved
meet_struct-loop-i-preserved t c =
    let l = c.loop-i.invariant in
    let i = c.loop-i-test.true in
    let G = struct_turn _ _ _ _ _ _ c.loop-i.new _ _ _ l.going i _ _ c.word-x.ensures c.word-y.ensures c.meet_type.ensures.met _ _ c.in_ok-m-in-Fields.was (omega (arith, l.few, l.long, i)) in
    record {
      few = l.few;
      long = simp length-set l.long;
      same_long = grew_long G.turn.grew;
      within = grew_high G.turn.grew;
      onward = grew_up G.turn.grew;
      over = l.over;
      first_near = l.first_near;
      second_near = l.second_near;
      going = G;
      right = c.meet_type.ensures.remembered.after.is _ _ c.in_ok-m-in-Fields.was;
    }

pub meet_struct-meet_fields-fields-requires-clause-types_len_bound : goal.meet_struct-meet_fields-fields-requires-clause-types_len_bound
meet_struct-meet_fields-fields-requires-clause-types_len_bound t c =
    let l = c.loop-i.invariant in
    let n = length-take-le (c.word.result / 65536) c.loop-i.types (omega (arith, l.few, l.long)) in
    (omega (arith, n, l.few), l.first_near, l.second_near, rw n (struct_values _ _ _ _ _ c.requires.ready _ c.struct_rule-rule.ensures c.in-Fields.is _ c.word.ensures _ _ _ _ l.going))

pub meet_struct-returns-in-Former : goal.meet_struct-returns-in-Former
meet_struct-returns-in-Former t c = record { met_struct = met_former _ _ _ _ _ c.requires.ready _ c.struct_rule-rule.ensures c.in-Former.is; remembered = remembered_same c.requires.remembers }

pub meet_struct-returns-in-Latter : goal.meet_struct-returns-in-Latter
meet_struct-returns-in-Latter t c = record { met_struct = met_latter _ _ _ _ _ c.requires.ready _ c.struct_rule-rule.ensures c.in-Latter.is; remembered = remembered_same c.requires.remembers }

pub meet_struct-returns-in-Lowest : goal.meet_struct-returns-in-Lowest
meet_struct-returns-in-Lowest t c = record { met_struct = met_lowest _ _ _ _ _ c.requires.ready _ c.struct_rule-rule.ensures c.in-Lowest.is; remembered = remembered_same c.requires.remembers }

pub meet_struct-returns-after-loop-i : goal.meet_struct-returns-after-loop-i
meet_struct-returns-after-loop-i t c =
    let t = struct_end _ _ _ _ _ c.requires.ready _ c.struct_rule-rule.ensures c.in-Fields.is _ c.word.ensures _ _ _ _ c.loop-i.invariant.going (omega arith) (omega arith) _ _ c.meet_fields-fields.ensures in
    let m = remembered_fields (going_segments c.loop-i.invariant.going) c.loop-i.invariant.right _ _ _ c.meet_fields-fields.ensures in
    let both = struct_noted c.requires.ready _ c.pair_key-key.ensures t m c.noted.ensures.value c.noted.ensures.learned in
    record { met_struct = both.0; remembered = both.1 }

pub meet_type-returns-in-Some : goal.meet_type-returns-in-Some
meet_type-returns-in-Some t c = record { met = met_known c.requires.ready _ c.meet_key-key.ensures c.requires.remembers c.recall.ensures _ c.in-Some.is; remembered = remembered_same c.requires.remembers }

pub meet_type-meet_float-requires-clause-a_value : goal.meet_type-meet_float-requires-clause-a_value
meet_type-meet_float-requires-clause-a_value t c = float_sizes _ _ _ _ _ c.requires.ready _ c.type_rule-rule.ensures c.in-Floats.is

pub meet_type-meet_struct-requires : goal.meet_type-meet_struct-requires
meet_type-meet_struct-requires t c = (search rules, (ready_structs _ _ _ _ _ c.requires.ready _ c.type_rule-rule.ensures c.in-Structs.is, (c.requires.remembers, c.requires.covers)))

pub meet_type-meet_struct-requires-in-Pointers : goal.meet_type-meet_struct-requires-in-Pointers
meet_type-meet_struct-requires-in-Pointers t c =
    let n = pointer_next _ _ _ _ _ c.requires.ready _ c.type_rule-rule.ensures c.in-Pointers.is _ _ c.word-x.ensures c.word-y.ensures in
    (omega (arith, n.0, n.1), (n.2, (c.requires.remembers, c.requires.covers)))

pub meet_type-returns-in_err-m-in-Pointers-clause-met : goal.meet_type-returns-in_err-m-in-Pointers-clause-met
meet_type-returns-in_err-m-in-Pointers-clause-met t c = rw c.from_residual.ensures (pointer_full _ _ _ _ _ c.requires.ready _ c.type_rule-rule.ensures c.in-Pointers.is _ _ c.word-x.ensures c.word-y.ensures _ _ c.meet_struct-in-Pointers.ensures.met_struct c.in_err-m-in-Pointers.was)

pub meet_type-pointer-pointer-requires : goal.meet_type-pointer-pointer-requires
meet_type-pointer-pointer-requires t c =
    let so = pointer_required _ _ _ _ _ c.requires.ready _ c.type_rule-rule.ensures c.in-Pointers.is _ _ c.word-x.ensures c.word-y.ensures _ _ c.meet_struct-in-Pointers.ensures.met_struct _ _ c.in_ok-m-in-Pointers.was c.requires.covers in
    record { segments = so.0; covers = so.1 }

pub meet_type-meet_type-requires : goal.meet_type-meet_type-requires
meet_type-meet_type-requires t c =
    let n = memory_next _ _ _ _ _ c.requires.ready _ c.type_rule-rule.ensures c.in-Memories.is _ _ c.word-x-in-Memories.ensures c.word-y-in-Memories.ensures in
    (omega (arith, n.0, n.1), (n.2, (c.requires.remembers, c.requires.covers)))

pub meet_type-returns-in_err-m-in-Memories-clause-met : goal.meet_type-returns-in_err-m-in-Memories-clause-met
meet_type-returns-in_err-m-in-Memories-clause-met t c = rw c.from_residual-in_err-m-in-Memories.ensures (memory_full _ _ _ _ _ c.requires.ready _ c.type_rule-rule.ensures c.in-Memories.is _ _ c.word-x-in-Memories.ensures c.word-y-in-Memories.ensures _ _ c.meet_type.ensures.met c.in_err-m-in-Memories.was)

pub meet_type-memory-memory-requires : goal.meet_type-memory-memory-requires
meet_type-memory-memory-requires t c =
    let so = memory_required _ _ _ _ _ c.requires.ready _ c.type_rule-rule.ensures c.in-Memories.is _ _ c.word-x-in-Memories.ensures c.word-y-in-Memories.ensures _ _ c.meet_type.ensures.met _ _ c.in_ok-m-in-Memories.was c.requires.covers in
    record { segments = so.0; covers = so.1 }

pub meet_type-loop-i-init : goal.meet_type-loop-i-init
meet_type-loop-i-init t c =
    let P = c.requires.ready in
    let k = c.type_rule-rule.ensures in
    let e = c.in-Tuples.is in
    let x = c.word-in-Tuples.ensures in
    record {
      few = tuple_few _ _ _ _ _ P _ k e _ x;
      long = refl;
      same_long = refl;
      within = P.within;
      onward = search rules;
      over = P.over;
      first_near = omega (arith, P.near, P.within, P.small);
      second_near = omega (arith, P.next, P.within, P.small);
      going = tuple_begin _ _ _ _ _ P _ k e _ x _;
      right = c.requires.remembers;
    }

pub meet_type-meet_type-requires-in-loop-i : goal.meet_type-meet_type-requires-in-loop-i
meet_type-meet_type-requires-in-loop-i t c =
    let n = tuple_next _ _ _ _ _ _ c.loop-i.new _ _ _ c.loop-i.invariant.going c.loop-i-test.true _ _ c.word-x-in-loop-i.ensures c.word-y-in-loop-i.ensures in
    (omega (arith, n.0, n.1), (n.2, (c.loop-i.invariant.right, grew_covers c.loop-i.invariant.going.turn.grew c.requires.covers)))

pub meet_type-returns-in_err-m-in-Tuples-clause-met : goal.meet_type-returns-in_err-m-in-Tuples-clause-met
meet_type-returns-in_err-m-in-Tuples-clause-met t c = rw c.from_residual-in_err-m-in-Tuples.ensures (tuple_stop _ _ _ _ _ c.requires.ready _ c.type_rule-rule.ensures c.in-Tuples.is _ c.word-in-Tuples.ensures _ _ _ _ c.loop-i.invariant.going c.loop-i-test.true _ _ c.word-x-in-loop-i.ensures c.word-y-in-loop-i.ensures _ _ c.meet_type-in-loop-i.ensures.met c.in_err-m-in-Tuples.was)

pub meet_type-overflow_cast-parts : goal.meet_type-overflow_cast-parts
meet_type-overflow_cast-parts t c =
    let l = c.loop-i.invariant in
    let i = c.loop-i-test.true in
    omega (arith, tuple_small _ _ _ _ _ _ c.loop-i.new _ _ _ l.going i _ _ c.word-x-in-loop-i.ensures c.word-y-in-loop-i.ensures c.meet_type-in-loop-i.ensures.met _ _ c.in_ok-m-in-Tuples.was)

pub meet_type-loop-i-preserved : goal.meet_type-loop-i-preserved
meet_type-loop-i-preserved t c =
    let l = c.loop-i.invariant in
    let i = c.loop-i-test.true in
    let G = tuple_turn _ _ _ _ _ _ c.loop-i.new _ _ _ l.going i _ _ c.word-x-in-loop-i.ensures c.word-y-in-loop-i.ensures c.meet_type-in-loop-i.ensures.met _ _ c.in_ok-m-in-Tuples.was (omega (arith, l.few, l.long, i)) in
    record {
      few = l.few;
      long = simp length-set l.long;
      same_long = grew_long G.turn.grew;
      within = grew_high G.turn.grew;
      onward = grew_up G.turn.grew;
      over = l.over;
      first_near = l.first_near;
      second_near = l.second_near;
      going = G;
      right = c.meet_type-in-loop-i.ensures.remembered.after.is _ _ c.in_ok-m-in-Tuples.was;
    }

pub meet_type-returns-in-First : goal.meet_type-returns-in-First
meet_type-returns-in-First t c = record { met = met_first _ _ _ _ _ c.requires.ready _ c.type_rule-rule.ensures c.in-First.is; remembered = remembered_same c.requires.remembers }

pub meet_type-returns-in-Second : goal.meet_type-returns-in-Second
meet_type-returns-in-Second t c = record { met = met_second _ _ _ _ _ c.requires.ready _ c.type_rule-rule.ensures c.in-Second.is; remembered = remembered_same c.requires.remembers }

pub meet_type-returns-in-Bottom : goal.meet_type-returns-in-Bottom
meet_type-returns-in-Bottom t c = record { met = met_bottom _ _ _ _ _ c.requires.ready _ c.type_rule-rule.ensures c.in-Bottom.is; remembered = remembered_same c.requires.remembers }

pub meet_type-returns-in-Ints : goal.meet_type-returns-in-Ints
meet_type-returns-in-Ints t c = record { met = met_ints _ _ _ _ _ c.requires.ready _ c.type_rule-rule.ensures c.in-Ints.is _ _ c.meet_int.ensures; remembered = remembered_entry (ready_segments c.requires.ready) c.requires.remembers _ c.meet_int.ensures }

pub meet_type-returns-in-Floats : goal.meet_type-returns-in-Floats
meet_type-returns-in-Floats t c = record { met = met_floats _ _ _ _ _ c.requires.ready _ c.type_rule-rule.ensures c.in-Floats.is _ c.meet_float.ensures; remembered = remembered_same c.requires.remembers }

pub meet_type-returns-in-Structs : goal.meet_type-returns-in-Structs
meet_type-returns-in-Structs t c = record { met = met_structs _ _ _ _ _ c.requires.ready _ c.type_rule-rule.ensures c.in-Structs.is _ _ c.meet_struct.ensures.met_struct; remembered = c.meet_struct.ensures.remembered }

pub meet_type-returns-in_ok-m-in-Pointers : goal.meet_type-returns-in_ok-m-in-Pointers
meet_type-returns-in_ok-m-in-Pointers t c =
    let t = met_pointers _ _ _ _ _ c.requires.ready _ c.type_rule-rule.ensures c.in-Pointers.is _ _ c.word-x.ensures c.word-y.ensures _ _ c.meet_struct-in-Pointers.ensures.met_struct _ _ c.in_ok-m-in-Pointers.was _ _ _ c.word.ensures c.word-in-Pointers.ensures c.larger-nil.ensures _ _ c.pointer-pointer.ensures in
    let m = remembered_pointer (pointer_segments _ _ _ _ _ c.requires.ready _ c.type_rule-rule.ensures c.in-Pointers.is _ _ c.word-x.ensures c.word-y.ensures _ _ c.meet_struct-in-Pointers.ensures.met_struct _ _ c.in_ok-m-in-Pointers.was) (c.meet_struct-in-Pointers.ensures.remembered.after.is _ _ c.in_ok-m-in-Pointers.was) _ _ c.pointer-pointer.ensures in
    let both = met_noted c.requires.ready _ c.meet_key-key.ensures t m c.noted.ensures.value c.noted.ensures.learned in
    record { met = both.0; remembered = both.1 }

pub meet_type-returns-in_ok-m-in-Memories : goal.meet_type-returns-in_ok-m-in-Memories
meet_type-returns-in_ok-m-in-Memories t c =
    let t = met_memories _ _ _ _ _ c.requires.ready _ c.type_rule-rule.ensures c.in-Memories.is _ _ c.word-x-in-Memories.ensures c.word-y-in-Memories.ensures _ _ c.meet_type.ensures.met _ _ c.in_ok-m-in-Memories.was _ _ _ c.word-in-Memories.ensures c.word-in-Memories-2.ensures c.shared_alias-alias.ensures _ _ c.memory-memory.ensures in
    let m = remembered_memory (memory_segments _ _ _ _ _ c.requires.ready _ c.type_rule-rule.ensures c.in-Memories.is _ _ c.word-x-in-Memories.ensures c.word-y-in-Memories.ensures _ _ c.meet_type.ensures.met _ _ c.in_ok-m-in-Memories.was) (c.meet_type.ensures.remembered.after.is _ _ c.in_ok-m-in-Memories.was) _ _ c.memory-memory.ensures in
    let both = met_noted c.requires.ready _ c.meet_key-key.ensures t m c.noted-in-Memories.ensures.value c.noted-in-Memories.ensures.learned in
    record { met = both.0; remembered = both.1 }

pub meet_type-returns-after-loop-i : goal.meet_type-returns-after-loop-i
meet_type-returns-after-loop-i t c =
    let t = tuple_end _ _ _ _ _ c.requires.ready _ c.type_rule-rule.ensures c.in-Tuples.is _ c.word-in-Tuples.ensures _ _ _ _ c.loop-i.invariant.going (omega arith) (omega arith) _ _ c.tuple_of-tuple.ensures in
    let m = remembered_entry (going_segments c.loop-i.invariant.going) c.loop-i.invariant.right _ c.tuple_of-tuple.ensures in
    let both = met_noted c.requires.ready _ c.meet_key-key.ensures t m c.noted-in-Tuples.ensures.value c.noted-in-Tuples.ensures.learned in
    record { met = both.0; remembered = both.1 }
