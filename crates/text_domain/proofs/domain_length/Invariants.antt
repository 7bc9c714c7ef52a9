-- `text_domain::domain_length` meets its contract.
-- Assumes nothing.
use Prim.Native.Nat.{◌-◌}
use lib.ListN.{length}
use Rattle.base_ascii.proofs.Searching.{Onward}
use Rattle.text_domain.specs.Domain.{domain_length}
use Rattle.text_domain.proofs.domain_length.Given as goal

abbrev pub invariant-loop-i : goal.invariant-loop-i
invariant-loop-i l = Onward domain_length l.text 0 l.i

abbrev pub decreases-loop-i : goal.decreases-loop-i
decreases-loop-i l = length l.text - l.i
