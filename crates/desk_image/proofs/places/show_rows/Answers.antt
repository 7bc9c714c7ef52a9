-- `desk_image::places::show_rows` is safe and ends: what was stored lies within its buffer.
-- Assumes nothing.
use Rattle.desk.proofs.Results.{result_held}
use borrow.Author.Rules.{rules}
use Rattle.desk_image.proofs.places.show_rows.Goals as goal

pub answer-requires : goal.answer-requires
answer-requires c = (search result_held, search rules)
