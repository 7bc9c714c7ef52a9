-- `say_put::put_text` meets its contract.
-- Assumes nothing.
use Rattle.say_put.proofs.Clipping.{clip_one, clip_copied}
use Rattle.say_put.proofs.put_text.Goals as goal

pub returns-then-text-eq1 : goal.returns-then-text-eq1
returns-then-text-eq1 c = search clip_one

pub returns : goal.returns
returns c = search clip_copied
