-- `disk_saves::file::put_entry` meets its contract.
-- Assumes nothing.
use Rattle.disk_saves.proofs.Writing.{first_below, entry_put}
use Rattle.disk_saves.proofs.file.put_entry.Goals as goal

pub track_of-requires : goal.track_of-requires
track_of-requires c = search first_below

pub sector_of-requires : goal.sector_of-requires
sector_of-requires c = search first_below

pub returns : goal.returns
returns c = search entry_put
