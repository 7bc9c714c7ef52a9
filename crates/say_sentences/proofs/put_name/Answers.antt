-- `say_sentences::put_name` meets its contract.
-- Assumes nothing.
use Rattle.say_put.proofs.Clipping.{clip_long, clip_within}
use Rattle.say_sentences.proofs.Telling.{tells_name}
use Rattle.say_sentences.proofs.put_name.Goals as goal

pub put_text-requires : goal.put_text-requires
put_text-requires c = search clip_within

pub returns : goal.returns
returns c = search tells_name

pub shape_of-out : goal.shape_of-out
shape_of-out c = clip_long (returns c)
