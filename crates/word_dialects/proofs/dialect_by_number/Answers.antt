-- `word_dialects::dialect_by_number` meets its contract.
-- Assumes nothing.
use Rattle.word_dialects.specs.Dialects.{by_number}
use Rattle.word_dialects.proofs.Naming.{by_other}
use Rattle.word_dialects.proofs.dialect_by_number.Goals as goal

pub returns-in-0 : goal.returns-in-0
unfolding by_number
returns-in-0 c = cc

pub returns-in-1 : goal.returns-in-1
unfolding by_number
returns-in-1 c = cc

pub returns-in-2 : goal.returns-in-2
unfolding by_number
returns-in-2 c = cc

pub returns-in-3 : goal.returns-in-3
unfolding by_number
returns-in-3 c = cc

pub returns-in_default : goal.returns-in_default
returns-in_default c = search by_other
