use Rattle.std.proofs.Common.{arith}
use Rattle.layout.proofs.Pass.{front, few_fields, starts, ended}
use Rattle.layout.proofs.lay_out.Goals as goal

pub place-requires : goal.place-requires
place-requires c =
    (few_fields c.args.list.now c.requires.1, c.requires.2, starts (front c.args.list.now) c.add_up-sums.result c.requires.2 c.add_up-sums.ensures.sums)

pub returns : goal.returns
returns c =
    let up = c.next_multiple_of.ensures in
    ended c.args.list.now c.add_up-sums.result c.place.new.list c.requires.0 c.requires.2 c.add_up-sums.ensures.sums c.place.ensures _ (omega (arith, up.lower_bound, up.upper_bound, up.multiple))
