-- The loop's ways.
use Rattle.std.proofs.Common.{rules}
use Rattle.of_structs.proofs.Matches.{find_begin, find_hit, find_miss, find_none}
use Rattle.of_structs.proofs.find.Goals as goal

pub loop-i-init : goal.loop-i-init
loop-i-init c = search find_begin

pub field_name-x-requires : goal.field_name-x-requires
field_name-x-requires c = record { used_in_bounds = search rules; s_bound = c.requires.s_bound; i_bound = search rules }

pub returns-then-same_name : goal.returns-then-same_name
returns-then-same_name c = search find_hit

pub loop-i-preserved : goal.loop-i-preserved
loop-i-preserved c = find_miss _ _ _ _ _ c.loop-i.invariant c.loop-i-test.true _ c.field_name-x.ensures.0 _ c.same_name.ensures c.if-same_name.false

pub returns : goal.returns
returns c = search find_none
