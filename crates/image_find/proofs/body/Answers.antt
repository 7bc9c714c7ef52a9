-- `image_find::body` meets its contract.
-- Assumes nothing.
use mathlib.Core.Path.{refl}
use Rattle.image_find.proofs.Bodies.{body_got}
use Rattle.image_find.proofs.body.Goals as goal

pub returns : goal.returns
returns c = body_got c.args.image.now c.args.line c.get.result c.unwrap_or.result _ c.get.ensures.lookup.0 refl c.unwrap_or.ensures
