-- `crunch::crunch_given` is safe and ends: the text is no longer than its buffer.
-- Assumes nothing.
use native.Mathlib.Omega.{arith}
use lib.ListN.{length-take}
use Rattle.crunch.proofs.crunch_given.Goals as goal

pub crunch_text-requires : goal.crunch_text-requires
crunch_text-requires c = simp length-take (omega arith)
