-- `text_lines::behind_fours` meets its contract.
-- Assumes nothing.
use Rattle.text_lines.proofs.Splitting.{above_none, above_first, first_above, two_above, three_above, four_above}
use borrow.Author.Rules.{rules}
use Rattle.text_lines.proofs.behind_fours.Goals as goal

pub returns-then-text-from : goal.returns-then-text-from
returns-then-text-from c = search above_none

pub loop-i-init : goal.loop-i-init
loop-i-init c = search (rules, above_first)

pub returns-then-text-i-le13-2 : goal.returns-then-text-i-le13-2
returns-then-text-i-le13-2 c = search first_above

pub returns-then-text-i-le13-3 : goal.returns-then-text-i-le13-3
returns-then-text-i-le13-3 c = search two_above

pub returns-then-text-i-le13-4 : goal.returns-then-text-i-le13-4
returns-then-text-i-le13-4 c = search three_above

pub loop-i-preserved : goal.loop-i-preserved
loop-i-preserved c = search (rules, four_above)
