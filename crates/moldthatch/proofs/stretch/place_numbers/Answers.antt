-- `moldthatch::stretch::place_numbers` meets its contract.
-- Assumes nothing.
use Rattle.moldthatch.proofs.TellingStretch.{tells_place, tells_body}
use Rattle.moldthatch.proofs.stretch.place_numbers.Goals as goal

pub returns-in-Number : goal.returns-in-Number
returns-in-Number c = search tells_place

pub returns-in-Body : goal.returns-in-Body
returns-in-Body c = search tells_body

pub returns-in-Over : goal.returns-in-Over
returns-in-Over c = search tells_place
