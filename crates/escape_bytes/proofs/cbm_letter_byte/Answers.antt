-- `escape_bytes::cbm_letter_byte` meets its contract: the constant is the definition's list.
-- Assumes nothing.
use mathlib.Core.Path.{refl}
use Rattle.escape_bytes.specs.KeyCodes.{cbm_letters}
use Rattle.escape_bytes.proofs.cbm_letter_byte.Goals as goal

pub returns : goal.returns
unfolding cbm_letters
returns c = refl
