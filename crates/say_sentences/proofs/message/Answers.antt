-- `say_sentences::message` meets its contract.
-- Assumes nothing.
use Rattle.say_put.proofs.Clipping.{clip_long, clip_within}
use Rattle.say_sentences.proofs.Telling.{tells_message}
use borrow.Author.Rules.{rules}
use Rattle.say_sentences.proofs.message.Goals as goal

pub put_placed-to-requires : goal.put_placed-to-requires
put_placed-to-requires c = (search clip_within, search rules)

pub put_number-requires : goal.put_number-requires
put_number-requires c = search clip_within

pub returns : goal.returns
returns c = search tells_message

pub shape_of-out : goal.shape_of-out
shape_of-out c = clip_long (returns c)
