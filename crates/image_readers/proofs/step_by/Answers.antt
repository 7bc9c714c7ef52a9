-- `image_readers::step_by` meets its contract.
-- Assumes nothing.
use Rattle.image_readers.proofs.Steps.{step_terminators, step_links}
use Rattle.image_readers.proofs.step_by.Goals as goal

pub returns-in-Terminators : goal.returns-in-Terminators
returns-in-Terminators c = search step_terminators

pub returns-in-Links : goal.returns-in-Links
returns-in-Links c = search step_links
