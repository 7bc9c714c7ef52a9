-- `image_jumps::plain_list` meets its contract.
-- Assumes nothing.
use Rattle.image_jumps.proofs.Opening.{opens_at_once, opens_go, opens_nothing}
use mathlib.Core.Path.{refl}
use native.Mathlib.Omega.{arith}
use Rattle.image_jumps.proofs.plain_list.Goals as goal

pub returns-in-137 : goal.returns-in-137
returns-in-137 c = opens_at_once _ _ c.requires refl c.in-137.is

pub returns-in-203 : goal.returns-in-203
returns-in-203 c = search opens_go

pub returns-in_default : goal.returns-in_default
returns-in_default c = opens_nothing _ _ c.requires (grind arith) (grind arith) (grind arith) (grind arith)
