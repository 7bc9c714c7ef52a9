-- `editor_findings::deciding::tsb_length` meets its contract.
-- Assumes nothing.
use Rattle.editor_findings.proofs.Undecided.{length_found, length_none}
use Rattle.editor_findings.proofs.deciding.tsb_length.Goals as goal

pub returns-in-Some : goal.returns-in-Some
returns-in-Some c = search length_found

pub returns-in-None : goal.returns-in-None
returns-in-None c = search length_none
