-- `base_ascii::search::last` meets its contract.
-- Assumes nothing.
use Rattle.base_ascii.specs.Search.{of_kind, last}
use Rattle.base_ascii.proofs.Searching.{Backward}
use Rattle.base_ascii.proofs.search.last.Given as goal

abbrev pub invariant-loop-i : goal.invariant-loop-i
invariant-loop-i l = Backward (last (of_kind l.kind)) l.s l.i
