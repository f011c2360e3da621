-- A call that no row turns back: its operation, and the end, by the ways that every call goes.
use Rattle.std.proofs.Common.{sym, ◌∙◌, arith, rules}
use Rattle.call.proofs.Ways.{begun, ended}
use Rattle.making.proofs.As.{appended_is}
use Rattle.making.proofs.Grows.{making_grows}
use Rattle.every_call.proofs.Cleared.{whole}
use Rattle.making.proofs.Kept.{kept_call}
use Rattle.making.proofs.append.Goals as goal

pub operate-r-requires : goal.operate-r-requires
operate-r-requires c = record {
  cleared = whole _ _ _ (begun _ _ c.requires.used_value) c.requires.words_value;
  right = c.requires.right;
  covers = c.requires.covers;
}

pub finish-requires : goal.finish-requires
finish-requires c =
    let g = begun _ _ c.requires.used_value in
    let k = c.operate-r.auto.new in
    (omega (arith, g.some, k), omega (arith, g.within, k))

pub returns : goal.returns
returns c =
    let m = c.args.making in
    let l = c.args.list.now in
    let t = c.args.text.now in
    let o = c.operate-r in
    let f = c.forget.ensures in
    let e = c.finish.ensures in
    let g = begun _ _ c.requires.used_value in
    let done = ended _ _ _ _ c.requires.used_value c.requires.words_value _ _ o.auto.new o.ensures.runs _ e in
    record {
      words_after = done ∙ sym (appended_is m l t c.args.words.now);
      right_2 = kept_call _ _ _ _ _ _ _ _ c.finish.result (omega (arith, g.low)) g.within (omega (arith, g.some, o.auto.new)) (making_grows m l t _) o.ensures.runs o.ensures.right_then f e;
      text_value = o.ensures.text_value;
    }
