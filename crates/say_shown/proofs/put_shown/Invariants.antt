-- `say_shown::put_shown` meets its contract.
-- Assumes nothing.
use Rattle.say_shown.proofs.Showing.{Showing}
use Rattle.say_shown.proofs.put_shown.Given as goal

abbrev pub invariant-loop-b : goal.invariant-loop-b
invariant-loop-b l = Showing l.text l.at l.initial.out l.out l.b-index l.to
