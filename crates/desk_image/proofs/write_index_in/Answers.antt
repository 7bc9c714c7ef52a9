-- `desk_image::write_index_in` is safe and ends: the index lies within the buffer.
-- Assumes nothing.
use Rattle.desk.proofs.Results.{result_held}
use borrow.Author.Rules.{rules}
use Rattle.desk_image.proofs.write_index_in.Goals as goal

pub answer-requires : goal.answer-requires
answer-requires c = (search result_held, search rules)
