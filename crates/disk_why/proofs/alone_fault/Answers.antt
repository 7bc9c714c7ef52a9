-- `disk_why::alone_fault` meets its contract.
-- Assumes nothing.
use Rattle.disk_why.proofs.Faults.{ends_nothing, ends_fault}
use Rattle.disk_why.proofs.alone_fault.Goals as goal

pub returns-then-ends_as : goal.returns-then-ends_as
returns-then-ends_as c = search ends_nothing

pub returns : goal.returns
returns c = search ends_fault
