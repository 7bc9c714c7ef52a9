-- `crunch::crunch_text` is safe and ends: the result lies within the buffer.
-- Assumes nothing.
use Rattle.desk.proofs.Results.{result_held}
use borrow.Author.Rules.{rules}
use Rattle.crunch.proofs.crunch_text.Goals as goal

pub answer-requires : goal.answer-requires
answer-requires c = (search result_held, search rules)
