-- `image_index_entries::entry` meets its contract.
-- Assumes nothing.
use Rattle.image_index_entries.proofs.entry.Goals as goal

pub returns-in-Line : goal.returns-in-Line
returns-in-Line c = cc

pub returns-in-Jump : goal.returns-in-Jump
returns-in-Jump c = cc
