-- `text_lines::behind_run` meets its contract.
-- Assumes nothing.
use Rattle.base_ascii.proofs.Searching.{onward_start, run_turn}
use Rattle.text_lines.proofs.Blanks.{run_on_lem}
use borrow.Author.Rules.{rules}
use Rattle.text_lines.proofs.behind_run.Goals as goal

pub loop-i-init : goal.loop-i-init
loop-i-init c = search (rules, onward_start)

pub returns-then-i-from-eq16 : goal.returns-then-i-from-eq16
returns-then-i-from-eq16 c = search run_on_lem

pub loop-i-preserved : goal.loop-i-preserved
loop-i-preserved c = search (rules, run_turn)
