-- `moldthatch::moldthatch_list_with_room` meets its contract.
-- Assumes nothing.
use Rattle.moldthatch.proofs.TellingOptions.{tells_listing_room, tells_unlisted_room}
use Rattle.moldthatch.proofs.moldthatch_list_with_room.Goals as goal

pub returns-in-Ok : goal.returns-in-Ok
returns-in-Ok c = search tells_listing_room

pub returns-in-Err : goal.returns-in-Err
returns-in-Err c = search tells_unlisted_room
