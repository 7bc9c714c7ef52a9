-- `desk_text::steps::check_steps` is safe and ends. A span is known wherever the walk stands.
-- Assumes nothing.
use Rattle.body_steps.specs.BraceHelpers.{Spans}
use Rattle.desk_text.proofs.steps.check_steps.Given as goal

abbrev pub invariant-loop : goal.invariant-loop
invariant-loop l = Spans l.body l.stand.at l.stand.span
