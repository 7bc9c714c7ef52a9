-- `word_dialects::dialect_by_name` meets its contract: no name that was passed is the text.
-- Assumes nothing.
use Rattle.word_dialects.proofs.Naming.{Sought}
use Rattle.word_dialects.proofs.dialect_by_name.Given as goal

abbrev pub invariant-loop-known : goal.invariant-loop-known
invariant-loop-known l = Sought l.known-items l.name l.known-index
