-- `body_steps::string::no_span` meets its contract.
-- Assumes nothing.
use Rattle.body_steps.proofs.Braces.{spans_none}
use Rattle.body_steps.proofs.string.no_span.Goals as goal

pub returns : goal.returns
returns c = search spans_none
