-- `library_numbers::faults::mode_of` meets its contract.
-- Assumes nothing.
use Rattle.library_numbers.specs.FaultNumbers.{mode_of}
use Rattle.library_numbers.proofs.Walking.{mode_other}
use Rattle.library_numbers.proofs.faults.mode_of.Goals as goal

pub returns-in-1 : goal.returns-in-1
unfolding mode_of
returns-in-1 c = cc

pub returns-in-2 : goal.returns-in-2
unfolding mode_of
returns-in-2 c = cc

pub returns-in-3 : goal.returns-in-3
unfolding mode_of
returns-in-3 c = cc

pub returns-in-4 : goal.returns-in-4
unfolding mode_of
returns-in-4 c = cc

pub returns-in_default : goal.returns-in_default
unfolding mode_of
returns-in_default c = mode_other _ c.in_default.in_default-own.rest.0.0.0.1 c.in_default.in_default-own.rest.0.0.1 c.in_default.in_default-own.rest.0.1 c.in_default.in_default-own.rest.1
