-- `base_bits::bit_at` meets its contract.
-- Assumes nothing.
use mathlib.Core.Path.{◌∙◌}
use Rattle.base_bits.proofs.Reading.{bit_there}
use native.Mathlib.Omega.{arith}
use Rattle.base_bits.proofs.bit_at.Goals as goal

pub returns : goal.returns
returns c = (c.from.ensures ∙ bit_there c.args.bytes.now c.args.at c.requires, omega arith)
