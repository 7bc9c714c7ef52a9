-- `list_bytes::hex_digit` meets its contract.
-- Assumes nothing.
use Rattle.list_bytes.proofs.ByteTexts.{digit_low, digit_high}
use Rattle.list_bytes.proofs.hex_digit.Goals as goal

pub returns-then-digit-lt10 : goal.returns-then-digit-lt10
returns-then-digit-lt10 c = search digit_low

pub returns : goal.returns
returns c = search digit_high
