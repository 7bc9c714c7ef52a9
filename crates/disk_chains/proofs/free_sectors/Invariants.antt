-- `disk_chains::free_sectors` meets its contract.
-- Assumes nothing.
use Rattle.disk_rules.specs.Map.{is_free}
use Rattle.disk_chains.proofs.Runs.{Picking}
use Rattle.disk_chains.proofs.free_sectors.Given as goal

abbrev pub invariant-loop-n : goal.invariant-loop-n
invariant-loop-n l = Picking (λ k. k) (is_free l.disk) 683 l.initial.list l.list l.count l.n
