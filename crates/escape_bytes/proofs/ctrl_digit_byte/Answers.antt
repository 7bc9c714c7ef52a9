-- `escape_bytes::ctrl_digit_byte` meets its contract: the constant is the definition's list.
-- Assumes nothing.
use mathlib.Core.Path.{refl}
use Rattle.escape_bytes.specs.KeyCodes.{ctrl_digits}
use Rattle.escape_bytes.proofs.ctrl_digit_byte.Goals as goal

pub returns : goal.returns
unfolding ctrl_digits
returns c = refl
