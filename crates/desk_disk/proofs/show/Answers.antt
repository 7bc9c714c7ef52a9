-- `desk_disk::show` is safe and ends: the text lies within its buffer.
-- Assumes nothing.
use Rattle.desk_disk.proofs.Shown.{shown_held}
use borrow.Author.Rules.{rules}
use Rattle.desk_disk.proofs.show.Goals as goal

pub answer-requires : goal.answer-requires
answer-requires c = (search shown_held, search rules)
