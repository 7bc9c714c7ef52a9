-- `desk_disk::read_into` is safe and ends: the result lies within its buffer.
-- Assumes nothing.
use Rattle.desk.proofs.Results.{result_held}
use borrow.Author.Rules.{rules}
use Rattle.desk_disk.proofs.read_into.Goals as goal

pub answer-requires : goal.answer-requires
answer-requires c = (search result_held, search rules)
