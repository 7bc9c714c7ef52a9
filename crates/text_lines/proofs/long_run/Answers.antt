-- `text_lines::long_run` meets its contract.
-- Assumes nothing.
use Rattle.base_ascii.proofs.Searching.{onward_start}
use Rattle.text_lines.proofs.Blanks.{run_four}
use borrow.Author.Rules.{rules}
use Rattle.text_lines.proofs.long_run.Goals as goal

pub loop-i-init : goal.loop-i-init
loop-i-init c = search (rules, onward_start)

pub loop-i-preserved : goal.loop-i-preserved
loop-i-preserved c = search (rules, run_four)
