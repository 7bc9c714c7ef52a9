-- `guess_uses::lists::bit` meets its contract.
-- Assumes nothing.
use Rattle.guess_uses.specs.MarkHelpers.{is_on}
use borrow.Author.Rules.{rules}
use Rattle.guess_uses.proofs.lists.bit.Goals as goal

pub returns : goal.returns
unfolding is_on
returns c = search rules
