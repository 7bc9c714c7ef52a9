-- `text_numbers::digits_in` meets its contract.
-- Assumes nothing.
use Rattle.text_numbers.proofs.Numbers.{Valued}
use Rattle.text_numbers.proofs.digits_in.Given as goal

abbrev pub invariant-loop-count : goal.invariant-loop-count
invariant-loop-count l = Valued l.text l.count l.value
