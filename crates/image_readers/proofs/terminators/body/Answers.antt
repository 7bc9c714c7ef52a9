-- `image_readers::terminators::body` meets its contract.
-- Assumes nothing.
use Rattle.image_readers.specs.Readers.{step_by}
use borrow.Author.Rules.{rules}
use Rattle.image_readers.proofs.terminators.body.Goals as goal

pub returns : goal.returns
unfolding step_by
returns c = search rules
