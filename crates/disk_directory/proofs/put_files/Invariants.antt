-- `disk_directory::put_files` meets its contract.
-- Assumes nothing.
use Rattle.disk_directory.proofs.Lining.{Lining}
use Rattle.disk_directory.proofs.put_files.Given as goal

abbrev pub invariant-loop-p : goal.invariant-loop-p
invariant-loop-p l = Lining l.disk l.files l.initial.out l.out l.p-index l.to
