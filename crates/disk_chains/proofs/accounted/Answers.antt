-- `disk_chains::accounted` meets its contract.
-- Assumes nothing.
use Rattle.disk_chains.proofs.Marking.{blank}
use borrow.Author.Rules.{rules}
use Rattle.disk_chains.proofs.accounted.Goals as goal

pub mark_once-requires : goal.mark_once-requires
mark_once-requires c = search (rules, blank)
