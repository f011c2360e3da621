use Rattle.index.proofs.Place.{old_inside, new_inside, in_old, in_new}
use Rattle.index.proofs.is_at.Goals as goal

pub entry_at-requires : goal.entry_at-requires
entry_at-requires g c = old_inside _ _ _ _ c.requires.0 c.requires.1 c.if-at-old.true

pub returns-then-at-old : goal.returns-then-at-old
returns-then-at-old g c = let same = in_old _ _ _ _ c.requires.0 c.requires.1 c.if-at-old.true in cc

pub entry_at-requires-2 : goal.entry_at-requires-2
entry_at-requires-2 g c = new_inside _ _ _ _ c.requires.0 c.requires.1 c.if-at-old.false

pub returns : goal.returns
returns g c = let same = in_new _ _ _ _ c.requires.0 c.requires.1 c.if-at-old.false in cc
