-- `text_domain::passed_by_eights` meets its contract.
-- Assumes nothing.
use Prim.Native.Nat.{◌-◌, ◌≤◌}
use lib.ListN.{length}
use Rattle.base_ascii.specs.Search.{front}
use Rattle.text_domain.specs.DomainHelpers.{is_low}
use Rattle.text_domain.proofs.passed_by_eights.Given as goal

abbrev pub invariant-loop-i : goal.invariant-loop-i
invariant-loop-i l = l.i ≤ front is_low l.text

abbrev pub decreases-loop-i : goal.decreases-loop-i
decreases-loop-i l = length l.text - l.i
