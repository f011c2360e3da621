-- The size is stored as a word and read back.
use Rattle.making.proofs.Values.{size_known, size_fits, float_stored}
use Rattle.making.proofs.float.Goals as goal

pub float_of-f-requires : goal.float_of-f-requires
float_of-f-requires c = size_known _ _ c.requires.bits_value

pub float-requires-clause-sz_value : goal.float-requires-clause-sz_value
float-requires-clause-sz_value c = (size_fits _ _ c.requires.bits_value _ c.float_of-f.ensures.0, c.float_of-f.ensures.1)

pub returns : goal.returns
returns c = float_stored _ _ c.requires.bits_value _ c.float_of-f.ensures.0 _ c.float.ensures
