use Rattle.std.proofs.Common.{arith, rules}
use Rattle.same_names.proofs.Alike.{size_small, name_itself, name_words_is}
use Rattle.same_names.proofs.same_name.Goals as goal

pub returns-then-p-q : goal.returns-then-p-q
returns-then-p-q c = search name_itself

pub same_words-requires : goal.same_words-requires
same_words-requires c = record {
  len_bound = search rules;
  n_bound = (omega (arith, size_small c.word.result (omega (arith, c.word.type_inv)), c.size-n.ensures), search rules, search rules);
}

pub returns : goal.returns
returns c = search name_words_is
