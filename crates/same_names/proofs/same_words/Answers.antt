use Rattle.same_names.proofs.Alike.{words_other, words_more, words_end}
use Rattle.same_names.proofs.same_words.Goals as goal

pub returns-then-word : goal.returns-then-word
returns-then-word c = search words_other

pub loop-i-preserved : goal.loop-i-preserved
loop-i-preserved c = search words_more

pub returns : goal.returns
returns c = search words_end
