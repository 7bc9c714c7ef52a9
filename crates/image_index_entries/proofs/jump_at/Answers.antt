-- `image_index_entries::jump_at` meets its contract.
-- Assumes nothing.
use Rattle.image_index_entries.proofs.Reading.{jump_short, jump_none, jump_there}
use Rattle.image_index_entries.proofs.jump_at.Goals as goal

pub returns-then-index-lt2 : goal.returns-then-index-lt2
returns-then-index-lt2 c = search jump_short

pub returns-then-from-index : goal.returns-then-from-index
returns-then-from-index c = search jump_none

pub returns : goal.returns
returns c = search jump_there
