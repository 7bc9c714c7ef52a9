-- `image_index_entries::look_up` meets its contract.
-- Assumes nothing.
use Rattle.image_index_entries.proofs.Reading.{Looking}
use Rattle.image_index_entries.proofs.look_up.Given as goal

abbrev pub invariant-loop-before : goal.invariant-loop-before
invariant-loop-before l = Looking l.number l.index l.held l.before
