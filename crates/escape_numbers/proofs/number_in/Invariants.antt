-- `escape_numbers::number_in` meets its contract: a number past the limit stays past it.
-- Assumes nothing.
use Rattle.escape_numbers.specs.Numbers.{number_of}
use Rattle.escape_numbers.proofs.Numbering.{Made}
use Rattle.escape_numbers.proofs.number_in.Given as goal

abbrev pub invariant-loop-b : goal.invariant-loop-b
invariant-loop-b l = Made l.base l.limit l.s (number_of l.base l.limit l.s) l.n l.b-index
