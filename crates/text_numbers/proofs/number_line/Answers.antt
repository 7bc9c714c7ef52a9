-- `text_numbers::number_line` meets its contract.
-- Assumes nothing.
use mathlib.Core.Path.{sym, ◌∙◌}
use borrow.Author.Tests.{eqb-true}
use Rattle.text_numbers.proofs.Numbers.{line_empty}
use Rattle.text_numbers.proofs.number_line.Goals as goal

pub returns-then-is_empty : goal.returns-then-is_empty
returns-then-is_empty c = line_empty _ (eqb-true _ _ (sym c.is_empty.ensures ∙ c.if-is_empty.true))
