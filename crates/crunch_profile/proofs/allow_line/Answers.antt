-- `crunch_profile::allow_line` meets its contract.
-- Assumes nothing.
use Rattle.crunch_profile.proofs.Asking.{says_high, says_behind, says_zero, says_length, says_yes}
use Rattle.crunch_profile.proofs.allow_line.Goals as goal

pub returns-then-is_too_high : goal.returns-then-is_too_high
returns-then-is_too_high c = search says_high

pub returns-then-is_not_ascending : goal.returns-then-is_not_ascending
returns-then-is_not_ascending c = search says_behind

pub returns-then-zero : goal.returns-then-zero
returns-then-zero c = search says_zero

pub returns-then-is_bad_length : goal.returns-then-is_bad_length
returns-then-is_bad_length c = search says_length

pub returns : goal.returns
returns c = search says_yes
