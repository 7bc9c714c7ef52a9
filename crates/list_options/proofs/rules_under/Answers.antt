-- `list_options::rules_under` meets its contract.
-- Assumes nothing.
use Rattle.list_options.proofs.Ruling.{rules_are}
use Rattle.list_options.proofs.rules_under.Goals as goal

pub returns : goal.returns
returns c = search rules_are
