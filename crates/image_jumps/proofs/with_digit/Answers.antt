-- `image_jumps::with_digit` meets its contract.
-- Assumes nothing.
use Rattle.image_jumps.proofs.Stepping.{digit_first, digit_cut, digit_more}
use borrow.Author.Rules.{rules}
use Rattle.image_jumps.proofs.with_digit.Goals as goal

pub returns-then-value-gt6553 : goal.returns-then-value-gt6553
returns-then-value-gt6553 c = search digit_cut

pub returns-in-None : goal.returns-in-None
returns-in-None c = search (digit_first, rules)

pub returns-else-value-gt6553 : goal.returns-else-value-gt6553
returns-else-value-gt6553 c = digit_more _ c.in-Some.is (rw c.from-in-Some.ensures at c.cut.ensures)
