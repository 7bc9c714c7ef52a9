-- `disk_any::stop_on` meets its contract.
-- Assumes nothing.
use Rattle.disk_any.proofs.Locating.{holds_low, holds_first, directory_stops}
use borrow.Author.Rules.{rules}
use Rattle.disk_any.proofs.stop_on.Goals as goal

pub follow-followed-requires : goal.follow-followed-requires
follow-followed-requires c = search (rules, holds_low, holds_first)

pub returns : goal.returns
returns c = search directory_stops
