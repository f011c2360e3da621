-- `lent_memory::make_ro_small` meets its contract.
use Rattle.finals.proofs.Knows.{knows_blank}
use borrow.Author.Rules.{rules}
use Rattle.lent_memory.proofs.make_ro_small.Statement.{statement}
use Rattle.lent_memory.proofs.make_ro_small.Tie as tie

slice_bounds-make_ro-end : tie.Need-slice_bounds-make_ro-end
slice_bounds-make_ro-end c = search rules

make_ro-requires : tie.Need-make_ro-requires
make_ro-requires c κs = (c.requires.0, (record { lines = c.requires.1.0; finals = knows_blank _ 0 }, c.requires.1.1))

shape_of-new : tie.Need-shape_of-new
shape_of-new c = search rules

shape_of-memo : tie.Need-shape_of-memo
shape_of-memo c = search rules

returns : tie.Need-returns
returns c = (c.make_ro.ensures.0, record { is = λ h v e. (c.make_ro.ensures.1.is h v e).lines })

pub make_ro_small_spec : {M : Type 1} → statement M
make_ro_small_spec =
    tie.close (tie.spec slice_bounds-make_ro-end make_ro-requires shape_of-new shape_of-memo returns)
