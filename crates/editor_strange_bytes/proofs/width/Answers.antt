-- `editor_strange_bytes::width` meets its contract.
-- Assumes nothing.
use Rattle.editor_strange_bytes.proofs.Knowing.{asked_fits, width_more, width_one}
use Rattle.editor_strange_bytes.proofs.width.Goals as goal

pub overflow_add-result : goal.overflow_add-result
overflow_add-result c = search asked_fits

pub returns-then-asked-inner_behind : goal.returns-then-asked-inner_behind
returns-then-asked-inner_behind c = search width_more

pub returns-else-asked-inner_behind : goal.returns-else-asked-inner_behind
returns-else-asked-inner_behind c = search width_one
