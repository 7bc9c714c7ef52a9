-- `say_sentences::put_sentence` meets its contract.
-- Assumes nothing.
use Rattle.say_sentences.specs.Rows.{rows}
use Rattle.say_put.proofs.Clipping.{clip_long}
use Rattle.say_sentences.proofs.Telling.{tells_sentence, tells_nothing}
use Rattle.say_sentences.proofs.put_sentence.Goals as goal

pub returns-then-number-gt0 : goal.returns-then-number-gt0
unfolding rows
returns-then-number-gt0 c = search tells_sentence

pub shape_of-out-then-number-gt0 : goal.shape_of-out-then-number-gt0
shape_of-out-then-number-gt0 c = clip_long (returns-then-number-gt0 c)

pub returns : goal.returns
returns c = search tells_nothing
