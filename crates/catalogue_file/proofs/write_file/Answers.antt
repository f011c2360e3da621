use Rattle.std.proofs.Common.{◌≡◌, ◌+◌, ◌-◌, ◌<◌, drop, arith, length-take, length-drop, ap, ◌∙◌}
use Rattle.std.proofs.lemmas.List.{get_or-drop, get_or-take}
use Rattle.catalogue_file.proofs.Written.{begun, sofar, begin_file, more_words, written}
use Rattle.catalogue_file.proofs.write_file.Goals as goal

pub loop-k-init : goal.loop-k-init
loop-k-init c = c.put_label.ensures ∙ begin_file c.args.label.now c.args.words.now c.args.out.now (omega arith)

pub loop-k-preserved : goal.loop-k-preserved
loop-k-preserved c =
    let more : c.loop-k.k < c.args.used - 94 = omega (arith, length-take (c.args.used - 94) (drop 94 c.args.words.now)) in
    more_words c.args.label.now c.args.words.now c.args.out.now _ _ _ (omega arith) (get_or-take _ _ _ 0 more ∙ get_or-drop 94 c.args.words.now _ 0) (omega arith) c.loop-k.invariant _ c.put_word.ensures

pub returns : goal.returns
returns c =
    let last : 94 + c.loop-k.k ≡ c.args.used = omega (arith, length-take (c.args.used - 94) (drop 94 c.args.words.now), length-drop 94 c.args.words.now) in
    written c.args.label.now c.args.words.now c.args.out.now c.args.used (omega arith) (omega arith) (omega arith) _ _ _ (c.loop-k.invariant ∙ ap (λ n. begun (sofar c.args.label.now c.args.words.now n) c.args.out.now) last) c.put_word-2.ensures c.put_word-3.ensures
