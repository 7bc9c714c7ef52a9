-- `disk_any::described` meets its contract.
-- Assumes nothing.
use Rattle.disk_any.proofs.Answers.{described_as}
use Rattle.disk_any.proofs.described.Goals as goal

pub returns : goal.returns
returns c = search described_as
