use Rattle.std.proofs.Common.{◌∙◌}
use Rattle.log_model.specs.Counts.{passes}
use Rattle.log_model.proofs.Counts.{count_vectors, words_alike, words_few, passes_none}
use Rattle.log_model.proofs.distances.count.Goals as goal

pub count_words-requires : goal.count_words-requires
count_words-requires c = record {
  alike = words_alike _ _ _ _ c.words.ensures c.words-2.ensures c.requires;
  few = words_few _ _ c.words.ensures;
}

pub returns : goal.returns
returns c = c.count_words.ensures ∙ count_vectors (passes c.args.question) _ _ _ _ c.words.ensures c.words-2.ensures c.requires (passes_none c.args.question)
