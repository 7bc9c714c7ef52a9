-- `say_sentences::put_number` meets its contract.
-- Assumes nothing.
use Rattle.say_put.proofs.Clipping.{clip_long, clip_within}
use Rattle.say_sentences.proofs.Telling.{tells_number}
use Rattle.say_sentences.proofs.put_number.Goals as goal

pub put_decimal-end-requires : goal.put_decimal-end-requires
put_decimal-end-requires c = search clip_within

pub put_text-requires : goal.put_text-requires
put_text-requires c = clip_within c.put_decimal-end.ensures

pub returns : goal.returns
returns c = search tells_number

pub shape_of-out : goal.shape_of-out
shape_of-out c = clip_long (returns c)
