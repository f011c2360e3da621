-- the deepest of all is the deeper of the depth so far and what is left
use Rattle.std.proofs.Common.{◌≡◌, ◌<◌, ◌+◌, ◌-◌, ◌*◌, ◌/◌, ◌++◌, max, length, take}
use Rattle.wellformed.specs.Entry.{deepest}
use Rattle.words.specs.Columns.{word, every}
use Rattle.makers.proofs.fields_deep.Given as goal

abbrev pub invariant-loop-i : goal.invariant-loop-i
invariant-loop-i l =
    (l.d < 256)
    × (deepest (word (take l.used (l.old ++ l.new))) (every 4 (length l.fields / 4) 1 l.fields)
    ≡ max l.d (deepest (word (take l.used (l.old ++ l.new))) (every 4 (length l.fields / 4 - l.i) (1 + 4 * l.i) l.fields)))
