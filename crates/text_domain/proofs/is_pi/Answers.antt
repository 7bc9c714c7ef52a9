-- `text_domain::is_pi` meets its contract.
-- Assumes nothing.
use mathlib.Core.Path.{◌∙◌}
use Rattle.text_domain.proofs.Limits.{pi_begins}
use Rattle.text_domain.proofs.is_pi.Goals as goal

pub returns : goal.returns
returns c = c.starts_with.ensures.value ∙ pi_begins _
