-- Each way out is a lemma of Ways.antt or Knows.antt.
use Rattle.std.proofs.Common.{not, ap, arith}
use Rattle.parts.proofs.Good.{part_ready}
use Rattle.finals.proofs.Ways.{left_end, left_not_final, left_part, left_stop, left_turn, final_other, pointer_part, final_pointer, struct_few, struct_begin}
use Rattle.finals.proofs.Knows.{kept_both}
use Rattle.finals.proofs.+is_final.Goals as goal

pub is_final-r-requires : goal.is_final-r-requires
is_final-r-requires t c =
    let P = c.requires.ready_one in
    let n = part_ready P (pointer_part P.good P.first _ c.word-head.ensures c.if-kind-eq-MEM_PTR.true _ c.word-to.ensures) in
    (omega (arith, n.0), (n.1, c.requires.knows))

pub returns-then-kind-eq-MEM_PTR : goal.returns-then-kind-eq-MEM_PTR
returns-then-kind-eq-MEM_PTR t c =
    let P = c.requires.ready_one in
    let told = final_pointer P.good P.first _ c.word-head.ensures c.if-kind-eq-MEM_PTR.true _ c.word-to.ensures _ c.is_final-r.ensures.finals in
    let both = kept_both P.good P.first c.is_final-r.ensures.knows_2 told c.kept.ensures.value c.kept.ensures.kept in
    record { finals = both.0; knows_2 = both.1 }

pub returns-then-kind-ne-STRUCT-clause-finals : goal.returns-then-kind-ne-STRUCT-clause-finals
returns-then-kind-ne-STRUCT-clause-finals t c =
    let P = c.requires.ready_one in
    final_other P.good P.first _ c.word-head.ensures c.if-kind-eq-MEM_PTR.false (λ e. omega arith)

pub loop-i-init : goal.loop-i-init
loop-i-init t c =
    let P = c.requires.ready_one in
    let x = c.word-head.ensures in
    (struct_few P.good P.first _ x, omega (arith, P.near, P.within, P.small), struct_begin P.good P.first _ x c.if-kind-eq-MEM_PTR.false (omega arith), c.requires.knows)

pub returns-then-flag-ne1-clause-finals : goal.returns-then-flag-ne1-clause-finals
returns-then-flag-ne1-clause-finals t c = search left_not_final

pub is_final-requires : goal.is_final-requires
is_final-requires t c =
    let n = part_ready c.requires.ready_one (left_part c.loop-i.invariant.2 c.loop-i-test.true _ c.word-flag.ensures _ c.word-t.ensures) in
    (omega (arith, n.0), (n.1, c.loop-i.invariant.3))

pub returns-then-not-is_final-clause-finals : goal.returns-then-not-is_final-clause-finals
returns-then-not-is_final-clause-finals t c = left_stop c.loop-i.invariant.2 c.loop-i-test.true _ c.word-flag.ensures _ c.word-t.ensures c.if-flag-ne1.false _ c.is_final.ensures.finals (ap not c.if-not-is_final.true)

pub loop-i-preserved : goal.loop-i-preserved
loop-i-preserved t c =
    let J = c.loop-i.invariant in
    (J.0, J.1, left_turn J.2 c.loop-i-test.true _ c.word-flag.ensures _ c.word-t.ensures c.if-flag-ne1.false _ c.is_final.ensures.finals (ap not c.if-not-is_final.false), c.is_final.ensures.knows_2)

pub returns : goal.returns
returns t c =
    let P = c.requires.ready_one in
    let both = kept_both P.good P.first c.loop-i.invariant.3 (left_end c.loop-i.invariant.2 (omega arith)) c.kept-2.ensures.value c.kept-2.ensures.kept in
    record { finals = both.0; knows_2 = both.1 }
