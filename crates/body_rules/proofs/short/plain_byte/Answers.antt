-- `body_rules::short::plain_byte` meets its contract.
-- Assumes nothing.
use Rattle.body_rules.specs.ShortHelpers.{plain_byte}
use Rattle.body_rules.proofs.ShortSteps.{no_operator}
use Rattle.body_rules.proofs.short.plain_byte.Goals as goal

pub returns-in-43 : goal.returns-in-43
unfolding plain_byte
returns-in-43 c = rw c.in-43.is

pub returns-in-45 : goal.returns-in-45
unfolding plain_byte
returns-in-45 c = rw c.in-45.is

pub returns-in-42 : goal.returns-in-42
unfolding plain_byte
returns-in-42 c = rw c.in-42.is

pub returns-in-47 : goal.returns-in-47
unfolding plain_byte
returns-in-47 c = rw c.in-47.is

pub returns-in-94 : goal.returns-in-94
unfolding plain_byte
returns-in-94 c = rw c.in-94.is

pub returns-in-62 : goal.returns-in-62
unfolding plain_byte
returns-in-62 c = rw c.in-62.is

pub returns-in-61 : goal.returns-in-61
unfolding plain_byte
returns-in-61 c = rw c.in-61.is

pub returns-in-60 : goal.returns-in-60
unfolding plain_byte
returns-in-60 c = rw c.in-60.is

pub returns-in-63 : goal.returns-in-63
unfolding plain_byte
returns-in-63 c = rw c.in-63.is

pub returns-in_default : goal.returns-in_default
returns-in_default c = no_operator _ c.requires c.in_default.in_default-own.rest
