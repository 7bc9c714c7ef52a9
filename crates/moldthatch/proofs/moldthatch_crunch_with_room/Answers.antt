-- `moldthatch::moldthatch_crunch_with_room` meets its contract.
-- Assumes nothing.
use Rattle.moldthatch.proofs.TellingOptions.{tells_image_room, tells_unknown_room}
use Rattle.moldthatch.proofs.moldthatch_crunch_with_room.Goals as goal

pub returns-in-Ok : goal.returns-in-Ok
returns-in-Ok c = search tells_image_room

pub returns-in-Err : goal.returns-in-Err
returns-in-Err c = search tells_unknown_room
