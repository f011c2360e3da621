use Rattle.index.proofs.Chain.{found_first, found_later, tail_of}
use Rattle.index.proofs.find.Goals as goal

pub returns-in-Some : goal.returns-in-Some
returns-in-Some g c = found_first _ _ c.requires.covers c.requires.segments.full _ _ c.search.ensures _ c.in-Some.is

pub find-requires : goal.find-requires
find-requires g c = (c.requires.segments, tail_of _ _ _ _ c.requires.segments c.requires.covers _ c.covered.ensures)

pub returns : goal.returns
returns g c = found_later _ _ c.requires.covers c.requires.segments.full _ _ c.search.ensures c.in_default.is _ c.covered.ensures _ c.find.ensures.answer
