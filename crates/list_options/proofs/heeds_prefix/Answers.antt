-- `list_options::heeds_prefix` meets its contract: the dialect is known in each arm.
-- Assumes nothing.
use Rattle.std.proofs.Common.{inl, inr}
use Rattle.list_options.specs.Modes.{heeds_prefix}
use Rattle.list_options.proofs.heeds_prefix.Goals as goal

pub returns-in-Auto : goal.returns-in-Auto
unfolding heeds_prefix
returns-in-Auto c = elim c.in-Auto.is [ inl e ↦ rw e | inr e ↦ rw e ]

pub returns-in-BasicV2 : goal.returns-in-BasicV2
unfolding heeds_prefix
returns-in-BasicV2 c = search

pub returns-in-Basic35 : goal.returns-in-Basic35
unfolding heeds_prefix
returns-in-Basic35 c = search
