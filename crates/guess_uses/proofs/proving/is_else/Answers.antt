-- `guess_uses::proving::is_else` meets its contract.
-- Assumes nothing.
use Rattle.guess_uses.proofs.Uses.{else_other, else_four}
use Rattle.guess_uses.proofs.proving.is_else.Goals as goal

pub returns-then-used-eq4 : goal.returns-then-used-eq4
returns-then-used-eq4 c = search else_four

pub returns-else-used-eq4 : goal.returns-else-used-eq4
returns-else-used-eq4 c = search (else_other, c.if-used-eq4.false)
