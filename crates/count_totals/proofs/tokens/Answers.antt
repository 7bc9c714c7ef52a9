-- `count_totals::tokens` meets its contract.
-- Assumes nothing.
use Rattle.count_totals.proofs.Bounds.{known_long, all_tokens, no_tokens}
use borrow.Author.Rules.{rules}
use Rattle.count_totals.proofs.tokens.Goals as goal

pub sum_up_to-requires : goal.sum_up_to-requires
sum_up_to-requires c = (search known_long, search rules)

pub returns-then-are_totals : goal.returns-then-are_totals
returns-then-are_totals c = search all_tokens

pub returns-else-are_totals : goal.returns-else-are_totals
returns-else-are_totals c = search no_tokens
