-- The words are one window.
use Rattle.std.proofs.Common.{[], arith}
use Rattle.source.proofs.Both.{length_stored}
use Rattle.wellformed.proofs.Windows.{plain_window, plain_some, plain_begin, plain_run}
use Rattle.wellformed.proofs.entries.Goals as goal

pub run-requires-clause-used_in_bounds : goal.run-requires-clause-used_in_bounds
run-requires-clause-used_in_bounds c =
    let n = length_stored c.args.words.now [] in
    (omega (arith, n), omega (arith, n, c.clear.auto.bits))

pub run-requires-clause-window : goal.run-requires-clause-window
run-requires-clause-window c = plain_window _ _ c.requires.0 c.requires.1

pub run-requires-clause-from_in_bounds : goal.run-requires-clause-from_in_bounds
run-requires-clause-from_in_bounds c =
    (plain_some _ _ c.requires.0 c.requires.1, plain_begin _ _ c.requires.0 c.requires.1 _ c.clear.ensures)

pub returns : goal.returns
returns c = rw c.eq.ensures (plain_run _ _ c.requires.0 c.requires.1 _ _ c.run.ensures)
