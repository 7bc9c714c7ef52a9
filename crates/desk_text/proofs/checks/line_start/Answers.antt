-- `desk_text::checks::line_start` is safe and ends.
-- Assumes nothing.
use Rattle.guess.proofs.Texts.{line_less}
use Rattle.desk_text.proofs.checks.line_start.Goals as goal

pub loop-at-smaller : goal.loop-at-smaller
loop-at-smaller c = search line_less
