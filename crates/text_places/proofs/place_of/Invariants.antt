-- `text_places::place_of` meets its contract.
-- Assumes nothing.
use Rattle.text_places.proofs.Placing.{Passed}
use Rattle.text_places.proofs.place_of.Given as goal

abbrev pub invariant-loop-i : goal.invariant-loop-i
invariant-loop-i l = Passed l.text l.offset l.i l.at
