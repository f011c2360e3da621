use Rattle.std.proofs.Common.{arith, rules}
use Rattle.words.proofs.Two.{behind_filled, behind_searched, old_filled, new_filled, in_old, in_new, count_few}
use Rattle.words.proofs.find.Goals as goal

pub look-requires : goal.look-requires
look-requires g c = (search rules, search rules, search behind_filled)

pub returns-then-old-from : goal.returns-then-old-from
returns-then-old-from g c = search behind_searched

pub look-first-requires : goal.look-first-requires
look-first-requires g c = (search rules, search rules, search old_filled)

pub returns-then-is_some : goal.returns-then-is_some
returns-then-is_some g c = in_old _ _ _ _ c.requires.0 c.requires.1 c.if-old-from.false _ _ _ c.look-first.ensures (cc)

pub look-second-requires : goal.look-second-requires
look-second-requires g c = (search rules, search rules, search new_filled)

pub overflow_add-result : goal.overflow_add-result
overflow_add-result g c = record { fits = omega (arith, count_few _ _ _ _ c.requires.0 c.requires.1 c.if-old-from.false _ _ _ c.look-first.ensures (cc) _ _ c.look-second.ensures) }

pub returns : goal.returns
returns g c = in_new _ _ _ _ c.requires.0 c.requires.1 c.if-old-from.false _ _ _ c.look-first.ensures (cc) _ _ c.look-second.ensures
