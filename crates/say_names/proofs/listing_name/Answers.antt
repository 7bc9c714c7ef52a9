-- `say_names::listing_name` meets its contract.
-- Assumes nothing.
use Rattle.say_put.proofs.Clipping.{clip_long}
use Rattle.say_names.proofs.Splitting.{listing_named}
use Rattle.say_names.proofs.listing_name.Goals as goal

pub returns : goal.returns
returns c = search listing_named

pub shape_of-out : goal.shape_of-out
shape_of-out c = clip_long (returns c)
