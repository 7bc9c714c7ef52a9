-- `editor_strange_bytes::inner_asked` meets its contract.
-- Assumes nothing.
use Rattle.editor_strange_bytes.proofs.Knowing.{asked_one, asked_two, asked_three, asked_low, asked_high}
use Rattle.editor_strange_bytes.proofs.inner_asked.Goals as goal

pub returns-in-194-to-223 : goal.returns-in-194-to-223
returns-in-194-to-223 c = search asked_one

pub returns-in-224-to-239 : goal.returns-in-224-to-239
returns-in-224-to-239 c = search asked_two

pub returns-in-240-to-244 : goal.returns-in-240-to-244
returns-in-240-to-244 c = search asked_three

pub returns-in_default : goal.returns-in_default
returns-in_default c = search asked_low

pub returns-in_default-2 : goal.returns-in_default-2
returns-in_default-2 c = search asked_high
