-- `body::fill` meets its contract.
-- Assumes nothing.
use Rattle.body.proofs.Writing.{fill_put}
use Rattle.body.proofs.fill.Goals as goal

pub returns : goal.returns
returns c = fill_put c.args.count c.args.byte c.requires (c.fill.ensures.after (λ y e. e))
