-- The deepest of all is the deeper of the depth so far and what is left.
use Rattle.std.proofs.Common.{◌≡◌, ◌++◌, ◌<◌, take, drop, max}
use Rattle.wellformed.specs.Entry.{deepest}
use Rattle.words.specs.Columns.{word}
use Rattle.call.proofs.deep.Given as goal

abbrev pub invariant-loop-h : goal.invariant-loop-h
invariant-loop-h l =
    (l.d < 256) × (deepest (word (take l.used (l.old ++ l.new))) l.hs ≡ max l.d (deepest (word (take l.used (l.old ++ l.new))) (drop l.h-index l.hs)))
