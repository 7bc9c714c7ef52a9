-- `say_sentences::put_placed` meets its contract.
-- Assumes nothing.
use Rattle.say_sentences.specs.Rows.{placed_row}
use Rattle.say_put.proofs.Clipping.{clip_long}
use Rattle.say_sentences.proofs.Telling.{tells_place, tells_otherwise}
use Rattle.say_sentences.proofs.put_placed.Goals as goal

pub returns-then-code-eq2 : goal.returns-then-code-eq2
unfolding placed_row
returns-then-code-eq2 c = search tells_place

pub shape_of-out-then-code-eq2 : goal.shape_of-out-then-code-eq2
shape_of-out-then-code-eq2 c = clip_long (returns-then-code-eq2 c)

pub returns : goal.returns
returns c = search (tells_otherwise, c.if-code-eq2.false)

pub shape_of-out : goal.shape_of-out
shape_of-out c = clip_long (returns c)
