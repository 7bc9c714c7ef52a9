-- `image_readers::line_at` meets its contract.
-- Assumes nothing.
use Rattle.image_readers.proofs.line_at.Goals as goal

pub returns : goal.returns
returns c = rw (c.low_first_at-number.ensures, c.low_first_at-link.ensures, c.address_at-address.ensures)
