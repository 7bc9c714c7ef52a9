-- `guess_uses::proving::proves` meets its contract.
-- Assumes nothing.
use Rattle.guess_uses.proofs.Uses.{proves_else, proves_start, proves_call}
use Rattle.guess_uses.proofs.Marks.{marks_rest}
use Rattle.guess_uses.proofs.proving.proves.Goals as goal

pub returns-then-is_else : goal.returns-then-is_else
returns-then-is_else c = search proves_else

pub assigned-requires : goal.assigned-requires
assigned-requires c = search marks_rest

pub returns-then-start : goal.returns-then-start
returns-then-start c = search proves_start

pub returns-else-start : goal.returns-else-start
returns-else-start c = search proves_call
