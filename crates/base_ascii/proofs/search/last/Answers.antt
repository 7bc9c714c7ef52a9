-- `base_ascii::search::last` meets its contract.
-- Assumes nothing.
use Rattle.base_ascii.proofs.Searching.{backward_start, last_turn, last_found, last_end}
use Rattle.base_ascii.proofs.search.last.Goals as goal

pub loop-i-init : goal.loop-i-init
loop-i-init c = search backward_start

pub returns-then-is_kind : goal.returns-then-is_kind
returns-then-is_kind c = search last_found

pub loop-i-preserved : goal.loop-i-preserved
loop-i-preserved c = search last_turn

pub returns : goal.returns
returns c = search last_end
