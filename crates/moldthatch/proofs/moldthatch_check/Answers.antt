-- `moldthatch::moldthatch_check` meets its contract.
-- Assumes nothing.
use mathlib.Core.Path.{ap, ◌∙◌}
use Rattle.library_numbers.specs.Overview.{overview_code}
use Rattle.moldthatch.proofs.moldthatch_check.Goals as goal

pub returns : goal.returns
returns c = c.checked_code.ensures ∙ ap overview_code c.check.ensures
