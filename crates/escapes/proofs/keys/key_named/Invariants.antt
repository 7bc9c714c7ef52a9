-- `escapes::keys::key_named` meets its contract: the table is the definition's.
-- Assumes nothing.
use Rattle.escapes.proofs.Prefixes.{Passed}
use Rattle.escapes.proofs.keys.key_named.Given as goal

abbrev pub invariant-loop-name : goal.invariant-loop-name
invariant-loop-name l = Passed l.name-items l.prefix l.name-index
