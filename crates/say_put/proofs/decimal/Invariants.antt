-- `say_put::decimal` meets its contract.
-- Assumes nothing.
use Rattle.say_put.proofs.Spelling.{Spelling}
use Rattle.say_put.proofs.decimal.Given as goal

abbrev pub invariant-loop-i : goal.invariant-loop-i
invariant-loop-i l = Spelling l.n l.digits l.i l.rest
