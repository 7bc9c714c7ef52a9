-- `disk_names::byte_form` meets its contract.
-- Assumes nothing.
use Rattle.disk_names.proofs.Naming.{form_short, form_open, form_close, form_high, form_low, form_byte}
use Rattle.disk_names.proofs.byte_form.Goals as goal

pub returns-then-s-lt4 : goal.returns-then-s-lt4
returns-then-s-lt4 c = search form_short

pub returns-then-s-ne123 : goal.returns-then-s-ne123
returns-then-s-ne123 c = search (form_open, c.if-s-ne123.true)

pub returns-then-s-ne125 : goal.returns-then-s-ne125
returns-then-s-ne125 c = search (form_close, c.if-s-ne125.true)

pub returns-then-high-gt15 : goal.returns-then-high-gt15
returns-then-high-gt15 c = search form_high

pub returns-then-low-gt15 : goal.returns-then-low-gt15
returns-then-low-gt15 c = search form_low

pub returns : goal.returns
returns c = search form_byte
