-- `moldthatch::stretch::place_of` meets its contract.
-- Assumes nothing.
use Rattle.moldthatch.proofs.TellingStretch.{place_number, place_body, place_over}
use Rattle.moldthatch.proofs.stretch.place_of.Goals as goal

pub returns-in-0 : goal.returns-in-0
returns-in-0 c = search place_number

pub returns-in-1 : goal.returns-in-1
returns-in-1 c = search place_body

pub returns-in_default : goal.returns-in_default
returns-in_default c = place_over _ _ c.in_default.in_default-own.rest.0.1 c.in_default.in_default-own.rest.1
