-- `image_sentences::lend_refused` meets its contract.
-- Assumes nothing.
use Rattle.image_sentences.specs.Sentences.{refused_sentence}
use borrow.Author.Rules.{rules}
use Rattle.image_sentences.proofs.lend_refused.Goals as goal

pub returns : goal.returns
unfolding refused_sentence
returns c = search rules
