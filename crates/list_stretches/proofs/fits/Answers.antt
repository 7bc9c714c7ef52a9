-- `list_stretches::fits` meets its contract.
-- Assumes nothing.
use Rattle.std.proofs.Common.{◌∙◌}
use borrow.Author.Tests.{le-leb}
use Rattle.list_stretches.proofs.Stretches.{any_fits, measured_fits}
use Rattle.list_stretches.proofs.fits.Goals as goal

pub returns-then-room-ge9 : goal.returns-then-room-ge9
returns-then-room-ge9 c = le-leb _ _ c.if-room-ge9.true ∙ any_fits _ _ c.if-room-ge9.true

pub returns-else-room-ge9 : goal.returns-else-room-ge9
returns-else-room-ge9 c = search measured_fits
