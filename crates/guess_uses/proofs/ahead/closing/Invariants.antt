-- `guess_uses::ahead::closing` meets its contract.
-- Assumes nothing.
use Rattle.guess_uses.proofs.Behind.{Listed}
use Rattle.guess_uses.proofs.ahead.closing.Given as goal

abbrev pub invariant-loop-i : goal.invariant-loop-i
invariant-loop-i l = Listed l.text l.depth l.i
