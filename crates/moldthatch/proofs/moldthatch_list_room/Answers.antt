-- `moldthatch::moldthatch_list_room` meets its contract.
-- Assumes nothing.
use Rattle.moldthatch.proofs.Telling.{tells_room}
use Rattle.moldthatch.proofs.moldthatch_list_room.Goals as goal

pub returns : goal.returns
returns c = tells_room c.room.result c.outcome_code.ensures c.room.ensures
