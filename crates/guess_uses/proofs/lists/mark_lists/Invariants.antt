-- `guess_uses::lists::mark_lists` meets its contract.
-- Assumes nothing.
use lib.ListN.{length}
use Rattle.guess_uses.proofs.Marks.{Marking}
use Rattle.guess_uses.proofs.lists.mark_lists.Given as goal

abbrev pub invariant-loop-n : goal.invariant-loop-n
invariant-loop-n l = Marking l.blank l.line (length l.initial.marks) (length l.initial.levels) l.marks l.levels l.count l.ahead l.n
