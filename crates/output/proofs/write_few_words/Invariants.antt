use Rattle.std.proofs.Common.{◌≤◌, ◌*◌}
use Rattle.output.specs.declared.TheConstants.{SPELLED_WORDS, WORD}
use Rattle.output.proofs.write_few_words.Given as goal

-- each word that is left finds room for its text
abbrev pub invariant-loop-i : goal.invariant-loop-i
invariant-loop-i g l = (WORD * l.i ≤ l.at) × (l.at ≤ WORD * SPELLED_WORDS)
