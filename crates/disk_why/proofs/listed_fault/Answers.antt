-- `disk_why::listed_fault` meets its contract.
-- Assumes nothing.
use Rattle.disk_why.proofs.Told.{listed_entry, listed_alone, listed_crossed, listed_map}
use Rattle.disk_why.proofs.listed_fault.Goals as goal

pub returns-then-not-is_nothing : goal.returns-then-not-is_nothing
returns-then-not-is_nothing c = search listed_entry

pub returns-then-not-is_nothing-2 : goal.returns-then-not-is_nothing-2
returns-then-not-is_nothing-2 c = search listed_alone

pub returns-then-not-is_nothing-3 : goal.returns-then-not-is_nothing-3
returns-then-not-is_nothing-3 c = search listed_crossed

pub returns : goal.returns
returns c = search listed_map
