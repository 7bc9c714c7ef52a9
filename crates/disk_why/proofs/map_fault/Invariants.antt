-- `disk_why::map_fault` meets its contract.
-- Assumes nothing.
use Prim.Native.Nat.{◌+◌, ◌/◌, ◌%◌}
use mathlib.Core.Bool.{false}
use lib.ListN.{get_or}
use Rattle.disk_why.specs.Why.{bit_fault, map_fault}
use Rattle.disk_why.proofs.Faults.{Mapping}
use Rattle.disk_why.proofs.map_fault.Given as goal

abbrev pub invariant-loop-i : goal.invariant-loop-i
invariant-loop-i l = Mapping (λ j. bit_fault l.disk (λ n. get_or l.marks n false) (1 + j / 24) (j % 24)) (map_fault l.disk (λ n. get_or l.marks n false)) l.i
