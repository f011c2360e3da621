-- Each way out is a lemma of Ways.antt, Loop.antt or Recall.antt.
use Rattle.std.proofs.Common.{rules, arith, refl, ◌/◌}
use Rattle.std.proofs.Math.ListN.{length-set}
use lib.Seq.{length-take-le}
use Rattle.parts.proofs.Grew.{grew_long, grew_high, grew_up, grew_covers}
use Rattle.finals.proofs.Ways.{struct_few}
use Rattle.make_ro.proofs.Loop.{going_next, going_turn, going_small, going_segments}
use Rattle.make_ro.proofs.Recall.{remembers_finals, remembered_same, remembered_pointer, remembered_struct, made_known, made_noted}
use Rattle.make_ro.proofs.Ways.{field_stays, other_stays, final_stays, pointer_next, pointer_full, pointer_segments, pointer_required, pointer_stays, pointer_made, struct_begin, struct_stop, struct_end, struct_values}
use Rattle.make_ro.proofs.+make_field_ro_make_ro_make_struct_ro.Goals as goal

pub make_field_ro-returns-then-value-eq1 : goal.make_field_ro-returns-then-value-eq1
make_field_ro-returns-then-value-eq1 t c = record { field_ro = field_stays _ _ _ _ _ c.requires.ready_one c.if-value-eq1.true; remembered = remembered_same c.requires.remembers }

pub make_ro-returns-in-Some : goal.make_ro-returns-in-Some
make_ro-returns-in-Some t c =
    let both = made_known c.requires.ready_one c.ro_key-key.ensures c.requires.remembers c.recall.ensures _ c.in-Some.is in
    record { made_ro = both.0; remembered = both.1 }

pub make_ro-make_ro-requires : goal.make_ro-make_ro-requires
make_ro-make_ro-requires t c =
    let n = pointer_next _ _ _ _ c.requires.ready_one _ c.word-kind.ensures c.if-kind-eq-MEM_PTR.true _ c.word-to.ensures in
    (omega (arith, n.0), (n.1, (c.requires.remembers, c.requires.covers)))

pub make_ro-returns-in_err-m-clause-made_ro : goal.make_ro-returns-in_err-m-clause-made_ro
make_ro-returns-in_err-m-clause-made_ro t c = rw c.from_residual.ensures (pointer_full _ _ _ _ c.requires.ready_one _ c.word-kind.ensures c.if-kind-eq-MEM_PTR.true _ c.word-to.ensures _ _ c.make_ro.ensures.made_ro c.in_err-m.was)

pub make_ro-returns-then-m-to : goal.make_ro-returns-then-m-to
make_ro-returns-then-m-to t c =
    let both = made_noted c.requires.ready_one c.ro_key-key.ensures (pointer_stays _ _ _ _ c.requires.ready_one _ c.word-kind.ensures c.if-kind-eq-MEM_PTR.true _ c.word-to.ensures _ _ c.make_ro.ensures.made_ro _ _ c.in_ok-m.was c.if-m-to.true) (remembered_same (c.make_ro.ensures.remembered.is _ _ c.in_ok-m.was)) c.noted.ensures.learned _ c.noted.ensures.value in
    record { made_ro = both.0; remembered = both.1 }

pub make_ro-pointer-r-requires : goal.make_ro-pointer-r-requires
make_ro-pointer-r-requires t c =
    let so = pointer_required _ _ _ _ c.requires.ready_one _ c.word-kind.ensures c.if-kind-eq-MEM_PTR.true _ c.word-to.ensures _ _ c.make_ro.ensures.made_ro _ _ c.in_ok-m.was c.requires.covers in
    record { segments = so.0; covers = so.1 }

pub make_ro-returns-then-kind-eq-MEM_PTR : goal.make_ro-returns-then-kind-eq-MEM_PTR
make_ro-returns-then-kind-eq-MEM_PTR t c =
    let both = made_noted c.requires.ready_one c.ro_key-key.ensures (pointer_made _ _ _ _ c.requires.ready_one _ c.word-kind.ensures c.if-kind-eq-MEM_PTR.true _ c.word-to.ensures _ _ c.make_ro.ensures.made_ro _ _ c.in_ok-m.was c.if-m-to.false _ c.word-nil.ensures _ _ c.pointer-r.ensures) (remembered_pointer (pointer_segments _ _ _ _ c.requires.ready_one _ c.word-kind.ensures c.if-kind-eq-MEM_PTR.true _ c.word-to.ensures _ _ c.make_ro.ensures.made_ro _ _ c.in_ok-m.was) (c.make_ro.ensures.remembered.is _ _ c.in_ok-m.was) _ _ c.pointer-r.ensures) c.noted-then-kind-eq-MEM_PTR.ensures.learned _ c.noted-then-kind-eq-MEM_PTR.ensures.value in
    record { made_ro = both.0; remembered = both.1 }

pub make_ro-returns-then-kind-ne-STRUCT : goal.make_ro-returns-then-kind-ne-STRUCT
make_ro-returns-then-kind-ne-STRUCT t c = record { made_ro = other_stays _ _ _ _ c.requires.ready_one _ c.word-kind.ensures c.if-kind-eq-MEM_PTR.false (λ e. omega (arith, c.if-kind-ne-STRUCT.true)); remembered = remembered_same c.requires.remembers }

pub make_ro-returns-then-is_final : goal.make_ro-returns-then-is_final
make_ro-returns-then-is_final t c = record { made_ro = final_stays _ _ _ _ c.requires.ready_one _ c.word-kind.ensures c.if-kind-eq-MEM_PTR.false (omega (arith, c.if-kind-ne-STRUCT.false)) _ c.is_final.ensures.finals c.if-is_final.true; remembered = remembered_same (remembers_finals c.requires.remembers c.is_final.ensures.knows_2) }

pub make_ro-returns : goal.make_ro-returns
make_ro-returns t c =
    let both = made_noted c.requires.ready_one c.ro_key-key.ensures c.make_struct_ro-r.ensures.made_ro c.make_struct_ro-r.ensures.remembered c.noted-2.ensures.learned _ c.noted-2.ensures.value in
    record { made_ro = both.0; remembered = both.1 }

pub make_struct_ro-loop-i-init : goal.make_struct_ro-loop-i-init
make_struct_ro-loop-i-init t c =
    let P = c.requires.ready_one in
    let x = c.word.ensures in
    record {
      few = struct_few P.good P.first _ x;
      long = refl;
      same_long = refl;
      within = P.within;
      onward = search rules;
      over = P.over;
      near = omega (arith, P.near, P.within, P.small);
      going = struct_begin _ _ _ _ P _ x c.requires.a_value.0 c.requires.a_value.1 _;
      right = c.requires.remembers;
    }

pub make_struct_ro-make_field_ro-requires : goal.make_struct_ro-make_field_ro-requires
make_struct_ro-make_field_ro-requires t c =
    let n = going_next c.loop-i.invariant.going c.loop-i-test.true _ _ c.word-t.ensures c.word-value.ensures in
    (omega (arith, n.0), (n.1, (c.loop-i.invariant.right, grew_covers c.loop-i.invariant.going.turn.grew c.requires.covers)))

pub make_struct_ro-returns-in_err-m-clause-made_ro : goal.make_struct_ro-returns-in_err-m-clause-made_ro
make_struct_ro-returns-in_err-m-clause-made_ro t c = rw c.from_residual.ensures (struct_stop _ _ _ _ c.requires.ready_one _ c.word.ensures c.requires.a_value.0 c.requires.a_value.1 _ _ _ _ c.loop-i.invariant.going c.loop-i-test.true _ _ c.word-t.ensures c.word-value.ensures _ _ c.make_field_ro.ensures.field_ro c.in_err-m.was)

pub make_struct_ro-overflow_cast-types : goal.make_struct_ro-overflow_cast-types
make_struct_ro-overflow_cast-types t c =
    let l = c.loop-i.invariant in
    let i = c.loop-i-test.true in
    omega (arith, going_small l.going i _ _ c.word-t.ensures c.word-value.ensures c.make_field_ro.ensures.field_ro _ _ c.in_ok-m.was)

pub make_struct_ro-loop-i-preserved : goal.make_struct_ro-loop-i-preserved
make_struct_ro-loop-i-preserved t c =
    let l = c.loop-i.invariant in
    let i = c.loop-i-test.true in
    let G = going_turn l.going i _ _ c.word-t.ensures c.word-value.ensures c.make_field_ro.ensures.field_ro _ _ c.in_ok-m.was (omega (arith, l.few, l.long, i)) in
    record {
      few = l.few;
      long = simp length-set l.long;
      same_long = grew_long G.turn.grew;
      within = grew_high G.turn.grew;
      onward = grew_up G.turn.grew;
      over = l.over;
      near = l.near;
      going = G;
      right = c.make_field_ro.ensures.remembered.is _ _ c.in_ok-m.was;
    }

pub make_struct_ro-made_final-requires-clause-types_len_bound : goal.make_struct_ro-made_final-requires-clause-types_len_bound
make_struct_ro-made_final-requires-clause-types_len_bound t c =
    let l = c.loop-i.invariant in
    let n = length-take-le (c.word.result / 65536) c.loop-i.types (omega (arith, l.few, l.long)) in
    (omega (arith, n, l.few), search rules, rw n (struct_values _ _ _ _ c.requires.ready_one _ c.word.ensures c.requires.a_value.0 c.requires.a_value.1 _ _ _ _ l.going))

pub make_struct_ro-returns : goal.make_struct_ro-returns
make_struct_ro-returns t c =
    let l = c.loop-i.invariant in
    record { made_ro = struct_end _ _ _ _ c.requires.ready_one _ c.word.ensures c.requires.a_value.0 c.requires.a_value.1 _ _ _ _ l.going (omega arith) (omega arith) _ _ c.made_final.ensures; remembered = remembered_struct (going_segments l.going) l.right _ _ c.made_final.ensures }
