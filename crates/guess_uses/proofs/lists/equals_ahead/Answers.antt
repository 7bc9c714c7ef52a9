-- `guess_uses::lists::equals_ahead` meets its contract.
-- Assumes nothing.
use Rattle.guess_uses.proofs.Marks.{ahead_kind, ahead_other}
use Rattle.guess_uses.proofs.lists.equals_ahead.Goals as goal

pub returns-then-is_kind : goal.returns-then-is_kind
returns-then-is_kind c = search ahead_kind

pub returns-else-is_kind : goal.returns-else-is_kind
returns-else-is_kind c = search ahead_other
