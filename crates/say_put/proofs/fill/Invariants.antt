-- `say_put::fill` meets its contract.
-- Assumes nothing.
use Rattle.say_put.proofs.Filling.{Filling}
use Rattle.say_put.proofs.fill.Given as goal

abbrev pub invariant-loop-b : goal.invariant-loop-b
invariant-loop-b l = Filling l.row l.first l.second l.third l.at l.initial.out l.out l.b-index l.to l.value l.later l.last
