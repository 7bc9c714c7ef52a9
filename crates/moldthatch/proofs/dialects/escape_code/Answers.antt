-- `moldthatch::dialects::escape_code` meets its contract.
-- Assumes nothing.
use mathlib.Core.Path.{refl}
use Rattle.moldthatch.proofs.TellingDialects.{tells_coded, tells_byte}
use Rattle.moldthatch.proofs.dialects.escape_code.Goals as goal

pub returns-in-Some : goal.returns-in-Some
returns-in-Some c = tells_byte c.in-Some.is c.from.ensures refl

pub returns-in-None : goal.returns-in-None
returns-in-None c = search tells_coded
