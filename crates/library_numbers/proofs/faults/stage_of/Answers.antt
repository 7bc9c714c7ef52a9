-- `library_numbers::faults::stage_of` meets its contract.
-- Assumes nothing.
use Rattle.library_numbers.specs.FaultNumbers.{stage_of}
use Rattle.library_numbers.proofs.Walking.{stage_jumps, stage_other}
use Rattle.library_numbers.proofs.faults.stage_of.Goals as goal

pub returns-in-0 : goal.returns-in-0
unfolding stage_of
returns-in-0 c = cc

pub returns-in-1 : goal.returns-in-1
unfolding stage_of
returns-in-1 c = cc

pub returns-in-2 : goal.returns-in-2
unfolding stage_of
returns-in-2 c = cc

pub returns-in-3 : goal.returns-in-3
unfolding stage_of
returns-in-3 c = cc

pub returns-in-4 : goal.returns-in-4
unfolding stage_of
returns-in-4 c = cc

pub returns-in-5 : goal.returns-in-5
unfolding stage_of
returns-in-5 c = search stage_jumps

pub returns-in-6 : goal.returns-in-6
unfolding stage_of
returns-in-6 c = cc

pub returns-in_default : goal.returns-in_default
unfolding stage_of
returns-in_default c = stage_other _ _ c.in_default.in_default-own.rest.0.0.0.0.0.0.1 c.in_default.in_default-own.rest.0.0.0.0.0.1 c.in_default.in_default-own.rest.0.0.0.0.1 c.in_default.in_default-own.rest.0.0.0.1 c.in_default.in_default-own.rest.0.0.1 c.in_default.in_default-own.rest.0.1 c.in_default.in_default-own.rest.1
