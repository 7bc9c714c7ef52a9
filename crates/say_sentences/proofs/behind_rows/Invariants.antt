-- `say_sentences::behind_rows` meets its contract.
-- Assumes nothing.
use Rattle.say_sentences.proofs.Skipping.{Skipping}
use Rattle.say_sentences.proofs.behind_rows.Given as goal

abbrev pub invariant-loop-i : goal.invariant-loop-i
invariant-loop-i l = Skipping l.rows l.count l.i l.left
