-- The loop's ways.
use Rattle.of_structs.proofs.Matches.{alias_begin, alias_hit, alias_miss, alias_none}
use Rattle.of_structs.proofs.find_alias.Goals as goal

pub loop-i-init : goal.loop-i-init
loop-i-init c = search alias_begin

pub returns-then-flags-alias : goal.returns-then-flags-alias
returns-then-flags-alias c = search alias_hit

pub loop-i-preserved : goal.loop-i-preserved
loop-i-preserved c = alias_miss _ _ _ _ _ c.loop-i.invariant c.loop-i-test.true _ c.word-flags.ensures c.if-flags-alias.false

pub returns : goal.returns
returns c = search alias_none
