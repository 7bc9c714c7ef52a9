-- `disk_chains::bit_agrees` meets its contract.
-- Assumes nothing.
use Rattle.disk_chains.proofs.Mapping.{agrees_in}
use Rattle.disk_chains.proofs.bit_agrees.Goals as goal

pub bounds-marks-sectors_before : goal.bounds-marks-sectors_before
bounds-marks-sectors_before c = search agrees_in
