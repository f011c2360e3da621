use Rattle.std.proofs.Common.{ℕ, ◌/◌, sym, ap, arith}
use Rattle.index.proofs.Built.{built_inside, built_bucket, built_long, built_more}
use Rattle.index.proofs.Keep.{extend_first, extend_last}
use Rattle.index.proofs.extend.Goals as goal

pub loop-at-init : goal.loop-at-init
loop-at-init c = extend_first _ _ _ c.requires.0 c.requires.1 c.requires.2 c.if-half-used.false _ c.covered-at.ensures

pub entry_at-entry-requires : goal.entry_at-entry-requires
entry_at-entry-requires c = omega (arith, built_inside _ _ _ _ c.requires.0 c.loop-at.invariant c.loop-at-test.true)

pub add-requires : goal.add-requires
add-requires c = (omega (arith, c.loop-at.invariant.half), built_bucket _ _ _ _ c.requires.0 c.loop-at.invariant c.loop-at-test.true)

pub loop-at-smaller : goal.loop-at-smaller
loop-at-smaller c = let h = built_long _ _ _ _ c.requires.0 c.loop-at.invariant c.loop-at-test.true _ c.entry_at-entry.ensures in omega arith

pub loop-at-preserved : goal.loop-at-preserved
loop-at-preserved c = built_more _ _ _ _ c.requires.0 c.loop-at.invariant c.loop-at-test.true _ _ c.entry_at-entry.ensures c.add.ensures

pub returns : goal.returns
returns c = extend_last _ _ _ _ c.requires.0 c.requires.1 c.loop-at.invariant c.loop-at-test.false _ (ap (λ (k : ℕ). k / 2) (sym c.loop-at.auto.index))
