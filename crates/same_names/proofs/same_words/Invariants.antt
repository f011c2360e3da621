-- what is left to compare says what the whole says
use Rattle.std.proofs.Common.{◌≡◌, ◌+◌, ◌-◌, ◌++◌, take}
use Rattle.meet_rules.specs.Names.{same_words}
use Rattle.same_names.proofs.same_words.Given as goal

abbrev pub invariant-loop-i : goal.invariant-loop-i
invariant-loop-i l =
    same_words (take l.used (l.old ++ l.new)) l.n l.p l.q ≡ same_words (take l.used (l.old ++ l.new)) (l.n - l.i) (l.p + l.i) (l.q + l.i)
