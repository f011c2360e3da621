-- `of_offsets::fill_offsets` meets its contract.
use Rattle.of_offsets.proofs.Logs.{part_size_is, part_fits, laid}
use Rattle.of_offsets.proofs.fill_offsets.Goals as goal

pub slice_bounds-lay_out-end-2 : goal.slice_bounds-lay_out-end-2
slice_bounds-lay_out-end-2 c = search part_size_is

pub lay_out-requires : goal.lay_out-requires
lay_out-requires c =
    part_fits _ _ _ c.word.ensures _ _ c.fill_logs.ensures c.requires.used_in_bounds.3 c.requires.used_in_bounds.2 c.requires.s_value

pub returns : goal.returns
returns c = search laid
