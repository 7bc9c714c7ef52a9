-- `say_put::lend_text` meets its contract.
-- Assumes nothing.
use Rattle.say_put.proofs.Lending.{lend_none, lend_all}
use Rattle.say_put.proofs.lend_text.Goals as goal

pub returns-then-out-needed : goal.returns-then-out-needed
returns-then-out-needed c = search lend_none

pub returns : goal.returns
returns c = search lend_all
